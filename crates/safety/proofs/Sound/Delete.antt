-- Delete leaves a sound machine sound.
use mathlib.Core.Path.{◌≡◌, refl, sym, ◌∙◌, ap}
use mathlib.Core.Bool.{true, false, ◌&&◌}
use mathlib.Core.List.{List, []}
use Prim.Native.Nat.{ℕ, ◌<◌, ◌≤◌}
use native.Mathlib.Omega.{arith}
use lib.Dec.{eqb}
use lib.ListN.{length, get_or, set}
use Rattle.rules.specs.declared.Vcpu.{Vcpu}
use Rattle.rules.specs.Words.{records, record_size}
use Rattle.rules.specs.Machine.{Lent, N, with_memory, write, zeros, grant, own, table_byte}
use Rattle.rules.specs.Machine.{is_live, holds, record_at, vcpu, startup}
use Rattle.rules.specs.Sound.{claim, claims, agrees, pages_sized}
use Rattle.rules.specs.Calls.{clear_svme, deleted, delete}
use Rattle.laws.proofs.Numbers.{length_zeros}
use Rattle.laws.proofs.Records.{is_live_zeros}
use Rattle.safety.proofs.Effects.{three_N, three_bytes, deleted_sheet, deleted_table, deleted_memory}
use Rattle.safety.proofs.Checks.{past_delete}
use Rattle.safety.proofs.Sound.Facts.{PageRight, Sound}
use Rattle.safety.proofs.Sound.Sizes.{in_sheet, sheet_length, pages_kept, written_sized}
use Rattle.safety.proofs.Sound.Claims.{claim_dead, claim_other, claims_same, claims_alone}
use Rattle.safety.proofs.Sound.Rows.{has_apic, own_apic, close_dead, startup_range, row_right, vmsa_below, calling_below, pool_below}
use Rattle.safety.proofs.Sound.Rows.{vmsa_owned, calling_owned, pool_owned, vmsa_alone, calling_alone, pool_alone, vmsa_not_calling, vmsa_not_pool}
use Rattle.safety.proofs.Sound.Rows.{calling_not_pool, count_still}
use Rattle.safety.proofs.Sound.OnePage.{right_given, owned_valid, own_low, own_high}
use Rattle.safety.proofs.Sound.Changed.{startup_other, changed_sound, record_there}

module _ (m : Lent) (s : Sound m) (i : ℕ) (h : i < records) (live : is_live (record_at m i) ≡ true) (ne : i ≡ 0 → ⊥)
    (vmpl : ℕ) (rank : (startup m).vmpl ≤ vmpl) where
  abbrev old_row : List ℕ
  old_row = record_at m i

  abbrev new_sheet : List (List ℕ)
  new_sheet = set m.sheet i (zeros record_size)

  row_inside : i < length m.sheet
  row_inside = in_sheet m s.tables h

  nothing : (p : ℕ) → claim (zeros record_size) p ≡ []
  nothing p = claim_dead (zeros record_size) p (is_live_zeros record_size)

  -- ---- each page

  -- a page that the record alone claims is claimed no more
  freed : (p : ℕ) → claims m.sheet p ≡ claim old_row p → claims new_sheet p ≡ []
  unfolding record_at
  freed p e = claims_alone m.sheet i p row_inside e (zeros record_size) ∙ nothing p

  -- any other page
  right_elsewhere : (p : ℕ) → p < N m → eqb (vcpu m i).vmsa p ≡ false → eqb (vcpu m i).calling p ≡ false → (holds old_row && eqb (vcpu m i).pool p) ≡ false
      → PageRight (startup m).vmpl (claims new_sheet p) (table_byte m p)
  unfolding vcpu record_at
  right_elsewhere p b e f g =
      rw (claims_same m.sheet i p row_inside (zeros record_size) (nothing p ∙ sym (claim_other (get_or m.sheet i []) p e f g))) (s.pages p b)

  -- the VMSA page
  right_vmsa : PageRight (startup m).vmpl (claims new_sheet (vcpu m i).vmsa) (grant vmpl (own 0 (table_byte m (vcpu m i).vmsa)))
  unfolding agrees
  right_vmsa =
      let p = (vcpu m i).vmsa in
      let right = s.pages p (vmsa_below m s i h live) in
      let owns = vmsa_owned m s i h live in
      right_given (startup m).vmpl vmpl (table_byte m p) (claims new_sheet p) (startup_range m s) rank (owned_valid _ _ _ right (λ e. omega arith))
      (rw (freed p (vmsa_alone m s i h live)))

  -- the calling page
  right_calling : PageRight (startup m).vmpl (claims new_sheet (vcpu m i).calling) (own 0 (table_byte m (vcpu m i).calling))
  unfolding agrees
  right_calling =
      let p = (vcpu m i).calling in
      let right = s.pages p (calling_below m s i h live) in
      let owns = calling_owned m s i h live in
      own_low _ _ _ right (claims new_sheet p) 0 refl (owned_valid _ _ _ right (λ e. omega arith)) (rw owns)
      (rw (freed p (calling_alone m s i h live)))

  -- the pool page
  right_pool : holds old_row ≡ true → PageRight (startup m).vmpl (claims new_sheet (vcpu m i).pool) (own 3 (table_byte m (vcpu m i).pool))
  unfolding agrees
  right_pool t =
      let p = (vcpu m i).pool in
      own_high _ _ _ (s.pages p (pool_below m s i h live t)) (claims new_sheet p) 3 refl refl (rw (pool_owned m s i h live t))
      (rw (freed p (pool_alone m s i h live t)))

  -- ---- the whole machine

  abbrev after : Lent
  after = deleted vmpl i m

  sheets : after.sheet ≡ new_sheet
  sheets = deleted_sheet vmpl i m

  abbrev v : Vcpu
  v = vcpu m i

  size_after : N after ≡ N m
  unfolding N
  size_after =
      ap length (deleted_table vmpl i m) ∙ three_N (λ b. grant vmpl (own 0 b)) (own 0) (own 3) v.vmsa v.calling v.pool (holds old_row) m

  pages_after : (p : ℕ) → p < N m → PageRight (startup m).vmpl (claims new_sheet p) (table_byte after p)
  unfolding table_byte
  pages_after p b =
      rw (deleted_table vmpl i m)
      (three_bytes (λ b. grant vmpl (own 0 b)) (own 0) (own 3) v.vmsa v.calling v.pool (holds old_row) m
      (λ p byte. PageRight (startup m).vmpl (claims new_sheet p) byte) (vmsa_not_calling m s i h live)
      (λ t. (vmsa_not_pool m s i h live t, calling_not_pool m s i h live t))
      right_vmsa right_calling right_pool right_elsewhere p b)

  same : (startup after).vmpl ≡ (startup m).vmpl
  same = startup_other m after i (zeros record_size) ne sheets

  pages_fit : pages_sized after ≡ true
  unfolding clear_svme write with_memory N
  pages_fit = pages_kept (clear_svme (vcpu m i).vmsa m) (written_sized m s.memories _ _ _) after (deleted_memory vmpl i m) size_after

  sound_deleted : Sound after
  unfolding table_byte record_at
  sound_deleted =
      let size = length_zeros record_size in
      changed_sound m after s i (zeros record_size) h sheets size_after size same pages_fit pages_after
      (close_dead after i (record_there m after s i (zeros record_size) h sheets size_after size same) ne)
      (λ j k other t.
      count_still (has_apic (vcpu m j).apic) m.sheet i (zeros record_size) row_inside j other (in_sheet m s.tables k) (own_apic m j t)
      (rw (is_live_zeros record_size)) (row_right m s j k t).once)

-- Delete leaves a sound machine sound
pub delete_sound : (caller rcx : ℕ) (m : Lent) → Sound m → caller < records → is_live (record_at m caller) ≡ true → Sound (delete caller rcx m).after
delete_sound caller rcx m s h live =
    past_delete caller rcx m Sound s (λ fit.
    sound_deleted m s _ (rw (sheet_length m s.tables) at fit.row) fit.live fit.later (vcpu m caller).vmpl (row_right m s caller h live).rank)
