-- Create leaves a sound machine sound.
use mathlib.Core.Path.{◌≡◌, refl, sym, ◌∙◌, ap}
use mathlib.Core.Bool.{true, false, cond, ◌&&◌, and-false}
use mathlib.Core.List.{List, [], ◌∷◌, ◌++◌}
use Prim.Native.Nat.{ℕ, ◌^◌, ◌<◌, ◌≤◌}
use native.Mathlib.Omega.{arith}
use lib.Dec.{eqb}
use lib.ListN.{length, get_or, set}
use borrow.Author.Tests.{eqb-false, eq-eqb, ne_eqb}
use Rattle.rules.specs.Words.{most_pages, records, record_size, count}
use Rattle.rules.specs.Machine.{Lent, N, page_at, owner, revoke, own, table_byte}
use Rattle.rules.specs.Machine.{fields, is_live, holds, needs_page, record_at, vcpu, startup, vmsa_vmpl}
use Rattle.rules.specs.Sound.{claim, claims, agrees, record_fault}
use Rattle.rules.specs.Calls.{Asked, asked, free_page, new_record, created, create}
use Rattle.laws.proofs.Ranges.{by_test, absent→}
use Rattle.laws.proofs.Records.{length_laid_out, fields_laid_out}
use Rattle.safety.proofs.Small.{implied}
use Rattle.safety.proofs.Effects.{three_N, three_bytes, created_sheet, created_table, created_memory}
use Rattle.safety.proofs.Checks.{CreateFit, pool_apart, past_create}
use Rattle.safety.proofs.Sound.Facts.{PageRight, Sound}
use Rattle.safety.proofs.Sound.Sizes.{few_pages, in_sheet, sheet_length, pages_kept}
use Rattle.safety.proofs.Sound.Claims.{says, claim_dead, claim_live, claims_same, claims_alone, nameable, unclaimed_alone}
use Rattle.safety.proofs.Sound.Rows.{has_apic, close_row, open_dead, row_right, count_kept, count_new}
use Rattle.safety.proofs.Sound.OnePage.{right_taken, own_low, own_high}
use Rattle.safety.proofs.Sound.Changed.{startup_other, changed_sound, record_there}

module _ (m : Lent) (s : Sound m) (a : Asked) (i : ℕ) (h : i < records) (fit : CreateFit a i m) (rank : (startup m).vmpl ≤ a.caller_vmpl) where
  abbrev new_row : List ℕ
  new_row = new_record a i m

  abbrev new_sheet : List (List ℕ)
  new_sheet = set m.sheet i new_row

  row_inside : i < length m.sheet
  row_inside = in_sheet m s.tables h

  pool_fits : cond (needs_page i) (free_page m) 0 < 256 ^ 4
  unfolding most_pages
  pool_fits = by_test (needs_page i) (λ t. rw t (omega (arith, fit.pool_in t, few_pages m s.tables))) (λ t. rw t (omega arith))

  -- the new record's fields
  filled : fields new_row ≡ record {
    live = 1;
    vmpl = vmsa_vmpl (page_at m a.vmsa);
    running = 0;
    holding = cond (needs_page i) 1 0;
    apic = a.apic;
    vmsa = a.vmsa;
    calling = a.calling;
    pool = cond (needs_page i) (free_page m) 0;
    spare = 0;
    features = 0;
  }
  unfolding new_record most_pages
  filled =
      let few = few_pages m s.tables in
      let v = fit.vmsa.inside in
      let c = fit.calling.inside in
      fields_laid_out _ fit.fits (omega arith) (omega arith) pool_fits (omega arith) (omega arith)

  now_live : is_live new_row ≡ true
  unfolding is_live
  now_live = rw filled

  -- what it claims
  claim_filled : (p : ℕ) → claim new_row p ≡ says (eqb a.vmsa p) 5 ++ says (eqb a.calling p) 1 ++ says (needs_page i && eqb (free_page m) p) 4
  unfolding holds
  claim_filled p = by_test (needs_page i) (λ t. rw (claim_live new_row p now_live, filled, t)) (λ t. rw (claim_live new_row p now_live, filled, t))

  -- ---- each page

  -- a page that nobody claimed is claimed by the new record alone
  taken : (p : ℕ) → p < N m → nameable (owner (table_byte m p)) ≡ false → claims new_sheet p ≡ claim new_row p
  taken p b e =
      claims_alone m.sheet i p row_inside (unclaimed_alone m.sheet i p (owner (table_byte m p)) row_inside (s.pages p b).agreed e) new_row

  -- any other page
  right_elsewhere : (p : ℕ) → p < N m → eqb a.vmsa p ≡ false → eqb a.calling p ≡ false → (needs_page i && eqb (free_page m) p) ≡ false
      → PageRight (startup m).vmpl (claims new_sheet p) (table_byte m p)
  unfolding record_at
  right_elsewhere p b e f g =
      let nothing : claim new_row p ≡ [] = rw (claim_filled p, e, f, g) in
      rw (claims_same m.sheet i p row_inside new_row (nothing ∙ sym (claim_dead (get_or m.sheet i []) p fit.dead))) (s.pages p b)

  -- the VMSA page
  right_vmsa : PageRight (startup m).vmpl (claims new_sheet a.vmsa) (own 5 (revoke (table_byte m a.vmsa)))
  unfolding agrees nameable
  right_vmsa =
      let p = a.vmsa in
      let owns = fit.vmsa.owned in
      let not_pool = implied (needs_page i) (eqb (free_page m) p) (λ t. ne_eqb _ _ (λ e. (pool_apart a i m fit t).0 (sym e))) in
      let mine : claims new_sheet p ≡ 5 ∷ []
      = taken p fit.vmsa.inside (rw owns) ∙ rw (claim_filled p, eq-eqb p p refl, ne_eqb a.calling p (λ e. fit.differ (sym e)), not_pool) in
      right_taken (startup m).vmpl 5 (table_byte m p) (claims new_sheet p) refl refl fit.vmsa.validated (rw mine)

  -- the calling page
  right_calling : PageRight (startup m).vmpl (claims new_sheet a.calling) (own 1 (table_byte m a.calling))
  unfolding agrees nameable
  right_calling =
      let p = a.calling in
      let owns = fit.calling.owned in
      let not_pool = implied (needs_page i) (eqb (free_page m) p) (λ t. ne_eqb _ _ (λ e. (pool_apart a i m fit t).1 (sym e))) in
      let mine : claims new_sheet p ≡ 1 ∷ []
      = taken p fit.calling.inside (rw owns) ∙ rw (claim_filled p, eq-eqb p p refl, ne_eqb a.vmsa p fit.differ, not_pool) in
      own_low _ _ _ (s.pages p fit.calling.inside) (claims new_sheet p) 1 refl fit.calling.validated (rw owns) (rw mine)

  -- the pool page
  right_pool : needs_page i ≡ true → PageRight (startup m).vmpl (claims new_sheet (free_page m)) (own 4 (table_byte m (free_page m)))
  unfolding agrees nameable
  right_pool t =
      let p = free_page m in
      let owns = fit.pool_free t in
      let apart = pool_apart a i m fit t in
      let mine : claims new_sheet p ≡ 4 ∷ []
      = taken p (fit.pool_in t) (rw owns)
      ∙ rw (claim_filled p, eq-eqb p p refl, t, ne_eqb _ _ apart.0, ne_eqb _ _ apart.1) in
      own_high _ _ _ (s.pages p (fit.pool_in t)) (claims new_sheet p) 4 refl refl (rw owns) (rw mine)

  -- ---- the whole machine

  abbrev after : Lent
  after = created a i m

  sheets : after.sheet ≡ new_sheet
  sheets = created_sheet a i m

  size_after : N after ≡ N m
  unfolding N
  size_after = ap length (created_table a i m) ∙ three_N (λ b. own 5 (revoke b)) (own 1) (own 4) a.vmsa a.calling (free_page m) (needs_page i) m

  pages_after : (p : ℕ) → p < N m → PageRight (startup m).vmpl (claims new_sheet p) (table_byte after p)
  unfolding table_byte
  pages_after p b =
      rw (created_table a i m)
      (three_bytes (λ b. own 5 (revoke b)) (own 1) (own 4) a.vmsa a.calling (free_page m) (needs_page i) m
      (λ p byte. PageRight (startup m).vmpl (claims new_sheet p) byte) fit.differ (pool_apart a i m fit)
      right_vmsa right_calling right_pool right_elsewhere p b)

  ne : i ≡ 0 → ⊥
  ne = (open_dead m i (s.rows i h) fit.dead).0

  same : (startup after).vmpl ≡ (startup m).vmpl
  same = startup_other m after i new_row ne sheets

  size : length new_row ≡ record_size
  unfolding new_record
  size = length_laid_out _

  there : record_at after i ≡ new_row
  there = record_there m after s i new_row h sheets size_after size same

  counted : count (has_apic a.apic) new_sheet ≡ 1
  counted = count_new (has_apic a.apic) m.sheet i new_row row_inside fit.unused (rw (now_live, filled) (eq-eqb a.apic a.apic refl))

  counted_elsewhere : (j : ℕ) → j < records → is_live (record_at m j) ≡ true → count (has_apic (vcpu m j).apic) new_sheet ≡ 1
  unfolding record_at vcpu
  counted_elsewhere j k t =
      let x = (vcpu m j).apic in
      let unlike : (is_live (get_or m.sheet j []) && eqb x a.apic) ≡ false
      = absent→ (has_apic a.apic) m.sheet j [] fit.unused (in_sheet m s.tables k) in
      let other : eqb a.apic x ≡ false = ne_eqb a.apic x (λ e. eqb-false x a.apic (rw t at unlike) (sym e)) in
      count_kept (has_apic x) m.sheet i new_row row_inside (rw (fit.dead, filled, other) (and-false (is_live new_row)))
      ∙ (row_right m s j k t).once

  held_below : cond {A = ℕ} (needs_page i) 1 0 ≡ 1 → cond (needs_page i) (free_page m) 0 < N m
  held_below e = by_test (needs_page i) (λ t. rw t (fit.pool_in t)) (λ t. let bad : ◌≡◌ {A = ℕ} 0 1 = rw t at e in absurd (omega arith))

  none_held : cond {A = ℕ} (needs_page i) 1 0 ≡ 0 → cond (needs_page i) (free_page m) 0 ≡ 0
  none_held e = by_test (needs_page i) (λ t. let bad : ◌≡◌ {A = ℕ} 1 0 = rw t at e in absurd (omega arith)) (λ t. rw t)

  row_after : record_fault after i ≡ false
  unfolding vcpu
  row_after =
      close_row after i
      (rw (size_after, same, there, filled, sheets)
      record {
        running = omega arith;
        least = fit.least;
        most = fit.most;
        vmsa = fit.vmsa.inside;
        calling = fit.calling.inside;
        pool = held_below;
        holding = refl;
        no_pool = none_held;
        spare = refl;
        features = λ e. refl;
        once = counted;
        rank = omega (arith, fit.rank);
      })
      (rw there now_live)

  sound_created : Sound after
  unfolding table_byte
  sound_created =
      changed_sound m after s i new_row h sheets size_after size same (pages_kept m s.memories after (created_memory a i m) size_after)
      pages_after row_after (λ j k other t. counted_elsewhere j k t)

-- Create leaves a sound machine sound
pub create_sound : (caller rcx rdx r8 : ℕ) (m : Lent) → Sound m → caller < records → is_live (record_at m caller) ≡ true
    → Sound (create caller rcx rdx r8 m).after
unfolding asked
create_sound caller rcx rdx r8 m s h live =
    past_create caller rcx rdx r8 m Sound s (λ fit.
    sound_created m s _ _ (rw (sheet_length m s.tables) at fit.row) fit (row_right m s caller h live).rank)
