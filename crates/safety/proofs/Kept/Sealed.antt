-- Statement 2: pages of owner 2 to 5 carry no permission.
use mathlib.Core.Path.{◌≡◌, refl}
use mathlib.Core.Bool.{true, false, and-eq-true_iff, and-false}
use Prim.Native.Nat.{ℕ, ◌≤◌}
use native.Mathlib.Omega.{arith}
use lib.Dec.{leb}
use borrow.Author.Tests.{leb-true, lt-leb, eqb-true}
use Rattle.rules.specs.Words.{between, bits}
use Rattle.rules.specs.Machine.{Lent, owner, valid, permitted, table_byte}
use Rattle.rules.specs.Sound.{well_permitted, sound}
use Rattle.laws.proofs.TableByte.{none→}
use Rattle.safety.proofs.Effects.{owned_below}
use Rattle.safety.proofs.Sound.Facts.{Sound, open_sound}

-- a page that is well permitted, and of owner 2 to 5
sealed_byte : (s c b : ℕ) → well_permitted s b ≡ true → 2 ≤ owner b → permitted c b ≡ false
unfolding well_permitted
sealed_byte s c b e h =
    none→ c b (eqb-true (bits 6 4 b) 0 (rw (lt-leb (owner b) 1 h, and-false (valid b)) at e))

least : (n : ℕ) → between 2 5 n ≡ true → 2 ≤ n
unfolding between
least n e = leb-true 2 n ((and-eq-true_iff (leb 2 n) (leb n 5)).0 e).0

-- no VMPL has any permission on a page of owner 2 or above
pub sealed_page : (m : Lent) → Sound m → (p c : ℕ) → 2 ≤ owner (table_byte m p) → permitted c (table_byte m p) ≡ false
sealed_page m s p c h = sealed_byte _ c (table_byte m p) (s.pages p (owned_below m p _ refl (omega arith))).allowed h

-- statement 2, of one machine
pub sealed_now : (m : Lent) → sound m ≡ true → (p c : ℕ) → between 2 5 (owner (table_byte m p)) ≡ true → permitted c (table_byte m p) ≡ false
sealed_now m e p c h = sealed_page m (open_sound m e) p c (least (owner (table_byte m p)) h)
