-- Remap leaves a sound machine sound.
use mathlib.Core.Path.{◌≡◌, refl, sym, ◌∙◌, ap}
use mathlib.Core.Bool.{true, false, ◌&&◌}
use mathlib.Core.List.{List, [], ◌∷◌, ◌++◌}
use Prim.Native.Nat.{ℕ, ◌<◌}
use native.Mathlib.Omega.{arith}
use lib.Dec.{eqb}
use lib.ListN.{length, get_or, set}
use lib.Seq.{sets, length-sets}
use borrow.Author.Tests.{eqb-true, eqb-false, eq-eqb, ne_eqb}
use Rattle.rules.specs.Words.{most_pages, records, record_size, little}
use Rattle.rules.specs.Machine.{Lent, N, page_of, owner, valid, own, table_byte, change, fields, is_live, holds, record_at, vcpu, startup, amend}
use Rattle.rules.specs.Sound.{claim, claims, agrees, pages_sized}
use Rattle.rules.specs.Calls.{remapped, remap}
use Rattle.laws.proofs.Ranges.{by_test}
use Rattle.laws.proofs.Records.{fields_remapped, is_live_remapped, holds_remapped}
use Rattle.laws.proofs.Change.{change_sheet, change_memory, change_N, change_byte}
use Rattle.safety.proofs.Checks.{past_remap}
use Rattle.safety.proofs.Sound.Facts.{PageRight, Sound}
use Rattle.safety.proofs.Sound.Sizes.{few_pages, in_sheet, record_length, pages_kept}
use Rattle.safety.proofs.Sound.Claims.{says, claim_live, claims_same, claims_alone, nameable, unclaimed_alone}
use Rattle.safety.proofs.Sound.Rows.{renewed, row_right, calling_below, calling_owned, calling_alone, not_vmsa, not_pool}
use Rattle.safety.proofs.Sound.OnePage.{write_sound, owned_valid, own_low}
use Rattle.safety.proofs.Sound.Changed.{renewed_sound}

module _ (m : Lent) (s : Sound m) (caller : ℕ) (h : caller < records) (live : is_live (record_at m caller) ≡ true) (new : ℕ) (inside : new < N m) where
  abbrev old : ℕ
  old = (vcpu m caller).calling

  abbrev new_row : List ℕ
  new_row = sets (record_at m caller) 12 (little 4 new)

  abbrev new_sheet : List (List ℕ)
  new_sheet = set m.sheet caller new_row

  -- the new record's fields: a new calling page
  renamed : fields new_row ≡ renewed (vcpu m caller).running new (vcpu m caller)
  unfolding vcpu most_pages
  renamed = fields_remapped (record_at m caller) new (record_length m s.tables caller h) (omega (arith, few_pages m s.tables))

  still_live : is_live new_row ≡ true
  still_live = is_live_remapped (record_at m caller) new ∙ live

  -- what it claims
  claim_renamed : (p : ℕ) → claim new_row p
      ≡ says (eqb (vcpu m caller).vmsa p) 5 ++ says (eqb new p) 1 ++ says (holds (record_at m caller) && eqb (vcpu m caller).pool p) 4
  claim_renamed p = rw (claim_live new_row p still_live, renamed, holds_remapped)

  -- as before, but at the old page and the new one
  claim_kept : (p : ℕ) → eqb old p ≡ eqb new p → claim new_row p ≡ claim (record_at m caller) p
  unfolding vcpu
  claim_kept p e = rw (claim_renamed p, claim_live (record_at m caller) p live, e)

  -- ---- each page

  row_inside : caller < length m.sheet
  row_inside = in_sheet m s.tables h

  claims_kept : (p : ℕ) → eqb old p ≡ eqb new p → claims new_sheet p ≡ claims m.sheet p
  unfolding record_at
  claims_kept p e = claims_same m.sheet caller p row_inside new_row (claim_kept p e)

  -- any other page
  right_elsewhere : (p : ℕ) → p < N m → eqb old p ≡ false → eqb new p ≡ false → PageRight (startup m).vmpl (claims new_sheet p) (table_byte m p)
  right_elsewhere p b e f = rw (claims_kept p (e ∙ sym f)) (s.pages p b)

  old_valid : valid (table_byte m old) ≡ true
  old_valid =
      owned_valid _ _ _ (s.pages old (calling_below m s caller h live)) (λ e. omega (arith, calling_owned m s caller h live))

  -- the same page again
  right_again : old ≡ new → PageRight (startup m).vmpl (claims new_sheet new) (own 1 (table_byte m new))
  right_again e =
      let owns : owner (table_byte m new) ≡ 1 = rw (← e) (calling_owned m s caller h live) in
      let right = s.pages new inside in
      own_low _ _ _ right (claims new_sheet new) 1 refl (rw (← e) old_valid) (rw owns)
      (rw (claims_kept new (rw e)) (rw owns at right.agreed))

  -- the old page
  right_old : (old ≡ new → ⊥) → PageRight (startup m).vmpl (claims new_sheet old) (own 0 (table_byte m old))
  unfolding agrees record_at
  right_old ne =
      let b = calling_below m s caller h live in
      let owns = calling_owned m s caller h live in
      let none : claims new_sheet old ≡ []
      = claims_alone m.sheet caller old row_inside (calling_alone m s caller h live) new_row
      ∙ rw (
        claim_renamed old,
        not_vmsa m s caller h live old (λ e. omega arith),
        ne_eqb new old (λ e. ne (sym e)),
        not_pool m s caller h live old (λ e. omega arith),
      ) in
      own_low _ _ _ (s.pages old b) (claims new_sheet old) 0 refl old_valid (rw owns) (rw none)

  -- the new one
  right_new : owner (table_byte m new) ≡ 0 → valid (table_byte m new) ≡ true → PageRight (startup m).vmpl (claims new_sheet new) (own 1 (table_byte m new))
  unfolding agrees record_at nameable
  right_new owns v =
      let right = s.pages new inside in
      let mine : claims new_sheet new ≡ 1 ∷ []
      = claims_alone m.sheet caller new row_inside
      (unclaimed_alone m.sheet caller new (owner (table_byte m new)) row_inside right.agreed (rw owns refl)) new_row
      ∙ rw (
        claim_renamed new,
        not_vmsa m s caller h live new (λ e. omega arith),
        eq-eqb new new refl,
        not_pool m s caller h live new (λ e. omega arith),
      ) in
      own_low _ _ _ right (claims new_sheet new) 1 refl v (rw owns) (rw mine)

  -- ---- the whole machine, whatever its table

  remap_changed : (after : Lent) → after.sheet ≡ new_sheet → N after ≡ N m → pages_sized after ≡ true
      → ((p : ℕ) → p < N m → PageRight (startup m).vmpl (claims new_sheet p) (table_byte after p)) → Sound after
  remap_changed after sheets sizes =
      let size : length new_row ≡ record_size = length-sets (record_at m caller) 12 (little 4 new) ∙ record_length m s.tables caller h in
      renewed_sound m after s caller (vcpu m caller).running new new_row h live renamed size sheets sizes (row_right m s caller h live).running inside

  -- ---- the two cases

  pages_again : old ≡ new → (p : ℕ) → p < N m → PageRight (startup m).vmpl (claims new_sheet p) (table_byte (change (own 1) new m) p)
  pages_again e p b =
      let was = change_byte (own 1) new m p b in
      by_test (eqb new p) (λ t. rw (was, t, ← eqb-true new p t) (right_again e)) (λ t. rw (was, t) (right_elsewhere p b (rw e t) t))

  pages_away : (old ≡ new → ⊥) → owner (table_byte m new) ≡ 0 → valid (table_byte m new) ≡ true → (p : ℕ) → p < N m
      → PageRight (startup m).vmpl (claims new_sheet p) (table_byte (change (own 1) new (change (own 0) old m)) p)
  pages_away ne owns v p b =
      let mid = change (own 0) old m in
      let first = change_byte (own 0) old m p b in
      let second = change_byte (own 1) new mid p (rw (change_N (own 0) old m) b) in
      by_test (eqb new p)
      (λ t.
      let not_old : eqb old p ≡ false = ne_eqb old p (λ e. ne (e ∙ sym (eqb-true new p t))) in
      rw (second, first, t, not_old, ← eqb-true new p t) (right_new owns v))
      (λ t. by_test (eqb old p) (λ u. rw (second, first, t, u, ← eqb-true old p u) (right_old ne)) (λ u. rw (second, first, t, u) (right_elsewhere p b u t)))

  abbrev named : Lent → Lent
  named mid = amend (λ r. sets r 12 (little 4 new)) caller (change (own 1) new mid)

  named_sheet : (mid : Lent) → mid.sheet ≡ m.sheet → (named mid).sheet ≡ new_sheet
  unfolding amend record_at
  named_sheet mid e = ap (λ rows. set rows caller (sets (get_or rows caller []) 12 (little 4 new))) (change_sheet (own 1) new mid ∙ e)

  sound_again : old ≡ new → Sound (named m)
  unfolding amend N table_byte
  sound_again e =
      let sizes = change_N (own 1) new m in
      remap_changed (named m) (named_sheet m refl) sizes (pages_kept m s.memories (named m) (change_memory (own 1) new m) sizes) (pages_again e)

  sound_away : (old ≡ new → ⊥) → owner (table_byte m new) ≡ 0 → valid (table_byte m new) ≡ true → Sound (named (change (own 0) old m))
  unfolding amend N table_byte
  sound_away ne owns v =
      let mid = change (own 0) old m in
      let sizes = change_N (own 1) new mid ∙ change_N (own 0) old m in
      remap_changed (named mid) (named_sheet mid (change_sheet (own 0) old m)) sizes
      (pages_kept m s.memories (named mid) (change_memory (own 1) new mid ∙ change_memory (own 0) old m) sizes) (pages_away ne owns v)

  sound_remapped : ((new ≡ old → ⊥) → owner (table_byte m new) ≡ 0) → valid (table_byte m new) ≡ true → Sound (remapped caller old new m)
  unfolding remapped
  sound_remapped owns v =
      by_test (eqb old new)
      (λ t. rw t (write_sound new 0 (0 ∷ []) _ (write_sound old 0 (0 ∷ []) _ (sound_again (eqb-true old new t)))))
      (λ t.
      let ne = eqb-false old new t in
      rw t (write_sound new 0 (0 ∷ []) _ (write_sound old 0 (0 ∷ []) _ (sound_away ne (owns (λ e. ne (sym e))) v))))

-- Remap leaves a sound machine sound
pub remap_sound : (caller rcx : ℕ) (m : Lent) → Sound m → caller < records → is_live (record_at m caller) ≡ true → Sound (remap caller rcx m).after
remap_sound caller rcx m s h live =
    past_remap caller rcx m Sound s (λ fit. sound_remapped m s caller h live (page_of rcx) fit.inside fit.owned fit.validated)
