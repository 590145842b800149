-- Laws about what the tests of outcome 3 have shown of a machine, once they are passed.
use mathlib.Core.Path.{◌≡◌, sym, ◌∙◌}
use mathlib.Core.Bool.{true, false, not, ◌&&◌, ◌||◌, and-eq-true_iff}
use mathlib.Core.List.{List, []}
use Prim.Native.Nat.{ℕ, ◌*◌, ◌<◌}
use native.Mathlib.Omega.{arith}
use lib.Dec.{leb, ltb}
use lib.ListN.{length, get_or}
use borrow.Author.Tests.{leb-true, leb-false, not-false}
use Rattle.rules.specs.Words.{between, exists, page_size, records, record_size}
use Rattle.rules.specs.Machine.{fields, is_live, holds, N, record_at, vcpu}
use Rattle.rules.specs.Sound.{bad_names, bad_record}
use Rattle.rules.specs.Call.{bad_sheet, bad_machine}
use Rattle.rules.specs.Flat.{Buffers, parts, parted, memory_sized, sheet_sized, well_sized}
use Rattle.laws.specs.Tested.{Tested, Names}
use Rattle.laws.proofs.Parts.{length_parts}
use Rattle.laws.proofs.Ranges.{or_false, absent→}
use Rattle.laws.proofs.FlatSteps.{sized_sheet, length_pages}

named : (n : ℕ) (r : List ℕ) → bad_names n r ≡ false → Names n r
unfolding bad_names between
named n r e =
    let v = fields r in
    let vmpl = not (leb 1 v.vmpl && leb v.vmpl 3) in
    let outer = or_false (vmpl || leb n v.vmsa || leb n v.calling) (holds r && leb n v.pool) e in
    let inner = or_false (vmpl || leb n v.vmsa) (leb n v.calling) outer.0 in
    let first = or_false vmpl (leb n v.vmsa) inner.0 in
    let range = (and-eq-true_iff (leb 1 v.vmpl) (leb v.vmpl 3)).0 (not-false (leb 1 v.vmpl && leb v.vmpl 3) first.0) in
    record {
      least = leb-true 1 v.vmpl range.0;
      most = leb-true v.vmpl 3 range.1;
      vmsa = leb-false n v.vmsa first.1;
      calling = leb-false n v.calling inner.1;
      pool = λ h. leb-false n v.pool (rw h at outer.1);
    }

pub names : (n : ℕ) (r : List ℕ) → bad_record n r ≡ false → is_live r ≡ true → Names n r
unfolding bad_record
names n r e live =
    named n r (rw live at (or_false (ltb 1 (fields r).live || ltb 1 (fields r).running || ltb 1 (fields r).holding) (is_live r && bad_names n r) e).1)

-- the caller's VMPL, as its byte is read
pub vmpl_is : (caller : ℕ) (b : Buffers) (v : ℕ) → v ≡ get_or (get_or (parts record_size b.sheet) caller []) 1 0 → (vcpu (parted b) caller).vmpl ≡ v
unfolding vcpu record_at fields parted
vmpl_is caller b v e = sym e

module _ (b : Buffers) (caller : ℕ) (t : Tested b caller) where
  sizes_both : (memory_sized b.table b.memory ≡ true) × (sheet_sized b.sheet ≡ true)
  unfolding well_sized
  sizes_both = (and-eq-true_iff (memory_sized b.table b.memory) (sheet_sized b.sheet)).0 t.sized

  pub pages_tested : length (parts page_size b.memory) ≡ length b.table
  pages_tested = length_pages b.table b.memory sizes_both.0

  pub memory_tested : memory_sized b.table b.memory ≡ true
  memory_tested = sizes_both.0

  pub sheet_tested : length b.sheet ≡ record_size * records
  sheet_tested = sized_sheet b.sheet sizes_both.1

  pub rows_tested : length (parts record_size b.sheet) ≡ records
  unfolding record_size records
  rows_tested = length_parts record_size b.sheet ∙ omega (arith, sheet_tested)

  shapes : ((leb records caller ≡ false) × (not (is_live (get_or (parts record_size b.sheet) caller [])) ≡ false))
      × ((not (is_live (get_or (parts record_size b.sheet) 0 [])) ≡ false) × (exists (bad_record (length b.table)) (parts record_size b.sheet) ≡ false))
  unfolding bad_machine bad_sheet N parted
  shapes =
      let rows = parts record_size b.sheet in
      let above = leb records caller in
      let dead = not (is_live (get_or rows caller [])) in
      let dead_0 = not (is_live (get_or rows 0 [])) in
      let outer = or_false (above || dead || dead_0) (exists (bad_record (length b.table)) rows) t.shape in
      let inner = or_false (above || dead) dead_0 outer.0 in
      (or_false above dead inner.0, (inner.1, outer.1))

  pub caller_below : caller < records
  caller_below = leb-false records caller shapes.0.0

  pub caller_live : is_live (get_or (parts record_size b.sheet) caller []) ≡ true
  caller_live = not-false _ shapes.0.1

  pub startup_live : is_live (get_or (parts record_size b.sheet) 0 []) ≡ true
  startup_live = not-false _ shapes.1.0

  -- a live record names pages below N, and a VMPL of 1 to 3
  pub live_names : (i : ℕ) → i < records → is_live (get_or (parts record_size b.sheet) i []) ≡ true
      → Names (length b.table) (get_or (parts record_size b.sheet) i [])
  live_names i h live =
      names (length b.table) (get_or (parts record_size b.sheet) i [])
      (absent→ (bad_record (length b.table)) (parts record_size b.sheet) i [] shapes.1.1 (rw rows_tested h)) live

  pub caller_names : Names (length b.table) (get_or (parts record_size b.sheet) caller [])
  caller_names = live_names caller caller_below caller_live
