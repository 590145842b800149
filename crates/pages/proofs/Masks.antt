-- The masks of `byte`: one test, computed over the 256 bytes, and the rule at each byte.
-- Assumes nothing.
use mathlib.Core.Path.{◌≡◌, refl, ◌∙◌}
use mathlib.Core.Bool.{Bool, true}
use Prim.Native.Nat.{ℕ, ◌<◌, ◌≤◌, zero-le}
use native.Mathlib.Omega.{arith}
use lib.Bits.{bit_and, bit_or}
use lib.Dec.{eqb}
use borrow.Author.Tests.{eqb-true, le-leb}
use Rattle.rules.specs.Words.{range, every, bit, with_bit, without_bit}
use Rattle.rules.specs.Machine.{grant, revoke, make_valid, make_invalid}
use Rattle.laws.proofs.Ranges.{every_range→}

-- a mask does what a change of the definition does, at every byte
abbrev agree : (ℕ → ℕ) → (ℕ → ℕ) → ℕ → Bool
agree mask change b = eqb (mask b) (change b)

masked : (mask change : ℕ → ℕ) → every (agree mask change) (range 0 256) ≡ true → (b : ℕ) → b < 256 → mask b ≡ change b
masked mask change t b h = eqb-true (mask b) (change b) (every_range→ (agree mask change) 0 256 t b zero-le h)

pub grant_0 : (b : ℕ) → b ≡ grant 0 b
unfolding grant
grant_0 b = refl

pub grant_1 : (b : ℕ) → b < 256 → bit_or b 16 ≡ grant 1 b
unfolding range every grant with_bit bit
grant_1 = masked (λ b. bit_or b 16) (grant 1) refl

pub grant_2 : (b : ℕ) → b < 256 → bit_or b 48 ≡ grant 2 b
unfolding range every grant with_bit bit
grant_2 = masked (λ b. bit_or b 48) (grant 2) refl

-- above 3 as at 3
pub grant_3 : (c b : ℕ) → 3 ≤ c → b < 256 → bit_or b 112 ≡ grant c b
unfolding range every grant with_bit bit
grant_3 c b high h =
    masked (λ b. bit_or b 112) (grant 3) refl b h
    ∙ rw (le-leb 1 c (omega arith), le-leb 2 c (omega arith), le-leb 3 c high)

pub revoke_all : (b : ℕ) → b < 256 → bit_and b 143 ≡ revoke b
unfolding range every revoke without_bit bit
revoke_all = masked (λ b. bit_and b 143) revoke refl

pub set_valid : (b : ℕ) → b < 256 → bit_or b 8 ≡ make_valid b
unfolding range every make_valid with_bit bit
set_valid = masked (λ b. bit_or b 8) make_valid refl

pub clear_valid : (b : ℕ) → b < 256 → bit_and b 247 ≡ make_invalid b
unfolding range every make_invalid without_bit bit
clear_valid = masked (λ b. bit_and b 247) make_invalid refl
