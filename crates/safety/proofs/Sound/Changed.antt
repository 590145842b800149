-- A sound machine stays sound when one record and some table bytes change, if the new record and the pages are right.
use mathlib.Core.Path.{◌≡◌, sym, ◌∙◌, ap}
use mathlib.Core.Bool.{true, false}
use mathlib.Core.List.{List, []}
use Prim.Native.Nat.{ℕ, ◌<◌, ◌≤◌}
use lib.Dec.{eqb}
use lib.ListN.{length, set}
use lib.Seq.{get_or-set_same, get_or-set_other}
use borrow.Author.Tests.{eqb-true, eqb-false}
use Rattle.rules.specs.declared.Vcpu.{Vcpu}
use Rattle.rules.specs.Words.{records, record_size, count}
use Rattle.rules.specs.Machine.{Lent, N, table_byte, fields, is_live, record_at, vcpu, startup}
use Rattle.rules.specs.Sound.{claims, record_fault, pages_sized}
use Rattle.laws.proofs.Ranges.{by_test}
use Rattle.safety.proofs.Sound.Facts.{PageRight, Sound}
use Rattle.safety.proofs.Sound.Sizes.{in_sheet, tables_kept}
use Rattle.safety.proofs.Sound.Rows.{has_apic, renewed, row_renewed, open_row, close_row, open_dead, close_dead, dead_zeros, row_right, count_kept}

-- a record that is not the first leaves the startup's
pub startup_other : (m after : Lent) (i : ℕ) (r : List ℕ) → (i ≡ 0 → ⊥) → after.sheet ≡ set m.sheet i r → (startup after).vmpl ≡ (startup m).vmpl
unfolding startup vcpu record_at
startup_other m after i r ne sheets = rw (sheets, get_or-set_other m.sheet i 0 r [] (λ e. ne (sym e)))

module _ (m after : Lent) (s : Sound m) (i : ℕ) (r : List ℕ) (h : i < records) (sheets : after.sheet ≡ set m.sheet i r)
    (sizes : N after ≡ N m) (size : length r ≡ record_size) (same : (startup after).vmpl ≡ (startup m).vmpl) where
  -- a record elsewhere
  record_elsewhere : (j : ℕ) → (j ≡ i → ⊥) → record_at after j ≡ record_at m j
  unfolding record_at
  record_elsewhere j ne = rw sheets (get_or-set_other m.sheet i j r [] ne)

  -- and the record itself
  pub record_there : record_at after i ≡ r
  unfolding record_at
  record_there = rw sheets (get_or-set_same m.sheet i r [] (in_sheet m s.tables h))

  row_elsewhere : (j : ℕ) → j < records → (j ≡ i → ⊥)
      → (is_live (record_at m j) ≡ true → count (has_apic (vcpu m j).apic) after.sheet ≡ 1)
      → record_fault after j ≡ false
  unfolding vcpu
  row_elsewhere j k ne counted =
      let there = record_elsewhere j ne in
      by_test (is_live (record_at m j))
      (λ t.
      let row = open_row m j (s.rows j k) t in
      close_row after j
      (rw (sizes, same, there) (row_renewed row row.running row.calling (counted t)))
      (rw there t))
      (λ t. close_dead after j (there ∙ dead_zeros m s j k t) (open_dead m j (s.rows j k) t).0)

  -- sound after it
  pub changed_sound : pages_sized after ≡ true
      → ((p : ℕ) → p < N m → PageRight (startup m).vmpl (claims (set m.sheet i r) p) (table_byte after p))
      → record_fault after i ≡ false
      → ((j : ℕ) → j < records → (j ≡ i → ⊥) → is_live (record_at m j) ≡ true → count (has_apic (vcpu m j).apic) (set m.sheet i r) ≡ 1)
      → Sound after
  unfolding table_byte
  changed_sound memories right row counted =
      record {
        tables = tables_kept m s.tables after i r sheets sizes (λ k. size);
        memories = memories;
        pages = λ p b. rw (same, sheets) (right p (rw sizes at b));
        rows = λ j k. by_test (eqb j i) (λ t. rw (eqb-true j i t) row)
            (λ t. row_elsewhere j k (eqb-false j i t) (λ l. rw sheets (counted j k (eqb-false j i t) l)));
      }

-- a live record gets another running byte and calling page
module _ (m after : Lent) (s : Sound m) (i running calling : ℕ) (r : List ℕ) (h : i < records) (live : is_live (record_at m i) ≡ true)
    (filled : fields r ≡ renewed running calling (vcpu m i)) (size : length r ≡ record_size)
    (sheets : after.sheet ≡ set m.sheet i r) (sizes : N after ≡ N m) where
  row_inside : i < length m.sheet
  row_inside = in_sheet m s.tables h

  still_live : is_live r ≡ is_live (record_at m i)
  unfolding is_live vcpu
  still_live = rw filled

  same : (startup after).vmpl ≡ (startup m).vmpl
  unfolding startup vcpu record_at
  same =
      by_test (eqb 0 i)
      (λ t. rw (sheets, eqb-true 0 i t, get_or-set_same m.sheet i r [] row_inside) (ap (λ (v : Vcpu). v.vmpl) filled))
      (λ t. rw (sheets, get_or-set_other m.sheet i 0 r [] (eqb-false 0 i t)))

  there : record_at after i ≡ r
  there = record_there m after s i r h sheets sizes size same

  counted : (a : ℕ) → count (has_apic a) (set m.sheet i r) ≡ count (has_apic a) m.sheet
  unfolding vcpu record_at
  counted a = count_kept (has_apic a) m.sheet i r row_inside (rw (still_live, filled))

  -- sound after it
  pub renewed_sound : running ≤ 1 → calling < N m → pages_sized after ≡ true
      → ((p : ℕ) → p < N m → PageRight (startup m).vmpl (claims (set m.sheet i r) p) (table_byte after p)) → Sound after
  unfolding vcpu
  renewed_sound l b memories right =
      let row = row_right m s i h live in
      changed_sound m after s i r h sheets sizes size same memories right
      (close_row after i (rw (sizes, same, there, filled, sheets) (row_renewed row l b (counted (vcpu m i).apic ∙ row.once))) (rw (there, still_live) live))
      (λ j k ne t. counted (vcpu m j).apic ∙ (row_right m s j k t).once)
