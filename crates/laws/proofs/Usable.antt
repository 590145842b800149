-- Laws of the test of a page that the calls share.
use mathlib.Core.Path.{◌≡◌, refl}
use mathlib.Core.Bool.{true, and-eq-true_iff}
use Prim.Native.Nat.{ℕ, ◌<◌}
use borrow.Author.Tests.{ltb-true}
use Rattle.rules.specs.Machine.{Lent, N, below, valid, table_byte, usable}
use Rattle.laws.specs.Alone.{table_alone}

module _ (vmpl : ℕ) (m : Lent) (p : ℕ) where
  -- it looks at the table alone
  pub usable_alone : usable vmpl m p ≡ usable vmpl (table_alone m.table) p
  unfolding usable below N table_byte
  usable_alone = refl

  -- a page that passes is below N, and valid
  pub usable→ : usable vmpl m p ≡ true → (p < N m) × (valid (table_byte m p) ≡ true)
  unfolding usable below
  usable→ e = let both = (and-eq-true_iff (below m p) (valid (table_byte m p))).0 e in (ltb-true p (N m) both.0, both.1)
