-- The mask that clears bit 12 of eight bytes.
-- Assumes nothing.
use mathlib.Core.Path.{◌≡◌}
use Prim.Native.Nat.{ℕ, ◌+◌, ◌*◌, ◌/◌, ◌%◌, ◌^◌, ◌<◌}
use native.Mathlib.Omega.{arith}
use lib.Bits.{bit_and}
use lib.Dec.{eqb, lit<}
use borrow.Author.Tests.{eqb-true, eqb-false}
use Rattle.std.proofs.lemmas.Nat.{and-not, and_comm}
use Rattle.std.proofs.lemmas.Nat.Bits.{and_pow}
use Rattle.rules.specs.Words.{bit, without_bit}
use Rattle.laws.proofs.Ranges.{by_test}

pub clear_bit_12 : (n : ℕ) → n < 2 ^ 64 → bit_and n 18446744073709547519 ≡ without_bit 12 n
unfolding without_bit bit
clear_bit_12 n h =
    let kept : bit_and n 18446744073709547519 + n / 4096 % 2 * 4096 ≡ n = rw (and_comm n 18446744073709547519, ← and_pow n 12, and_comm n (2 ^ 12)) (and-not 64 4096 n (lit< tt) h) in
    by_test (eqb (n / 4096 % 2) 1) (λ t. rw t (omega (arith, eqb-true))) (λ t. rw t (omega (arith, eqb-false)))
