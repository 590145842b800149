-- Laws of the test of a page that an entry covers, and of a usable page below N: what they come to on the table. They are
-- here and not in `laws`, which has to hold where a wrong rule is tried on `safety`.
-- Assumes nothing.
use mathlib.Core.Path.{◌≡◌}
use mathlib.Core.Bool.{true, not, ◌&&◌, false≢true}
use mathlib.Core.List.{List}
use Prim.Native.Nat.{ℕ, ◌+◌, ◌-◌, ◌*◌, ◌<◌, ◌≤◌}
use native.Mathlib.Omega.{arith}
use native.Mathlib.Nat.{mul-div_cancel_left}
use lib.Dec.{eqb, ltb, lit<}
use lib.ListN.{length, get_or}
use borrow.Author.Tests.{lt-ltb, ltb-true}
use Rattle.rules.specs.Words.{page_size, range, every}
use Rattle.rules.specs.Machine.{Lent, N, below, page_of, plain, owner, valid, table_byte, owned_by, usable}
use Rattle.rules.specs.Lists.{coverable}
use Rattle.laws.specs.Alone.{table_alone}
use Rattle.laws.proofs.Ranges.{by_test, every_range→}

-- the page of its own gPA
own_page : (list : ℕ) → page_of (page_size * list) ≡ list
unfolding page_of page_size
own_page list = mul-div_cancel_left list (lit< tt)

module _ (vmpl rcx : ℕ) (m : Lent) where
  -- the test looks at the table and at the list's page alone
  pub coverable_alone : (p : ℕ) → coverable vmpl rcx m p ≡ coverable vmpl (page_size * page_of rcx) (table_alone m.table) p
  unfolding coverable below N owned_by table_byte
  coverable_alone p = rw (own_page (page_of rcx))

  -- a page that passes it is below N
  coverable→ : (p : ℕ) → coverable vmpl rcx m p ≡ true → p < N m
  unfolding coverable below
  coverable→ p e = by_test (ltb p (N m)) (ltb-true p (N m)) (λ t. absurd (false≢true (rw t at e)))

  -- so is a range of them
  pub covered_within : (first n : ℕ) → 1 ≤ n → every (coverable vmpl rcx m) (range first n) ≡ true → first + n ≤ N m
  covered_within first n some e =
      let last = first + n - 1 in
      omega (arith, coverable→ last (every_range→ (coverable vmpl rcx m) first n e last (omega arith) (omega arith)))

module _ (vmpl : ℕ) (table : List ℕ) (p : ℕ) (h : p < length table) where
  -- below N a page may be covered that is plain and not the list's
  pub coverable_is : (list : ℕ) → coverable vmpl (page_size * list) (table_alone table) p ≡ (eqb (owner (get_or table p 0)) plain && not (eqb p list))
  unfolding coverable below N owned_by table_byte
  coverable_is list = rw (lt-ltb p (length table) h, own_page list)

  -- and is usable that is valid
  pub usable_is : usable vmpl (table_alone table) p ≡ valid (get_or table p 0)
  unfolding usable below N table_byte
  usable_is = rw (lt-ltb p (length table) h)
