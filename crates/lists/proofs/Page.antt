-- A list's page in a whole machine: what `list_page`, which looks at the table alone, says of the machine that the table belongs to.
-- Assumes nothing.
use mathlib.Core.Path.{◌≡◌, refl}
use mathlib.Core.Bool.{Bool, true, false, cond, not, ◌&&◌, ◌||◌}
use Prim.Native.Nat.{ℕ, ◌<◌}
use lib.Dec.{eqb}
use lib.ListN.{length}
use borrow.Author.Tests.{not-false}
use Rattle.std.specs.Prelude.{Ok, Err}
use Rattle.rules.specs.Machine.{Lent, N, page_of, offset_of, table_byte, plain, calling_area, owned_by, usable}
use Rattle.rules.specs.Lists.{bad_list_page}
use Rattle.rules.specs.Flat.{Buffers, parted}
use Rattle.laws.specs.Alone.{table_alone}
use Rattle.laws.proofs.Usable.{usable_alone, usable→}
use Rattle.laws.proofs.Ranges.{or_false}

-- an answer that gives something says that the test before it failed
pub accepted : {A E : Type 0} (t : Bool) (a x : A) (why : E) → Ok a ≡ cond t (Err why) (Ok x) → (t ≡ false) × (a ≡ x)
accepted true a x why told = cc
accepted false a x why told = (refl, cc)

module _ (vmpl gpa : ℕ) (m : Lent) where
  -- the test of a list's page looks at the table alone
  pub list_page_table : bad_list_page vmpl gpa m ≡ bad_list_page vmpl gpa (table_alone m.table)
  unfolding bad_list_page owned_by table_byte
  list_page_table = rw (usable_alone vmpl m (page_of gpa))

module _ (vmpl gpa : ℕ) (b : Buffers) where
  -- the same of a machine that is lent as bytes
  pub list_page_bytes : bad_list_page vmpl gpa (parted b) ≡ bad_list_page vmpl gpa (table_alone b.table)
  unfolding parted
  list_page_bytes = list_page_table vmpl gpa (parted b)

  -- a list's page that passes is a page of the machine
  pub page_below : bad_list_page vmpl gpa (parted b) ≡ false → page_of gpa < length b.table
  unfolding bad_list_page N parted
  page_below e =
      let p = page_of gpa in
      let unusable = not (usable vmpl (parted b) p) in
      let strange = not (owned_by plain (parted b) p) && not (owned_by calling_area (parted b) p) in
      let outer = or_false (unusable || strange) (owned_by calling_area (parted b) p && eqb (offset_of gpa) 0) e in
      (usable→ vmpl (parted b) p (not-false _ (or_false unusable strange outer.0).0)).0
