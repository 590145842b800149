-- Withdraw leaves a sound machine sound: each page that it gives back is a free page of the pool, valid, and turns plain and granted.
use mathlib.Core.Path.{◌≡◌, refl, sym, ◌∙◌, ap}
use mathlib.Core.Bool.{true, and-eq-true_iff}
use mathlib.Core.List.{List}
use Prim.Native.Nat.{ℕ, ◌<◌, ◌≤◌}
use native.Mathlib.Omega.{arith}
use Rattle.rules.specs.Words.{records, every, each}
use Rattle.rules.specs.Machine.{Lent, owner, own, grant, table_byte, is_live, record_at, vcpu, startup}
use Rattle.rules.specs.Sound.{agrees}
use Rattle.rules.specs.Calls.{is_free, give_back, withdrawn, withdraw}
use Rattle.laws.proofs.Ranges.{Rising, none, more}
use Rattle.safety.proofs.Small.{every_agree}
use Rattle.safety.proofs.Effects.{same_startup, give_back_other, give_back_sheet}
use Rattle.safety.proofs.Checks.{free_owner, withdrawn_rising, withdrawn_free, past_withdraw}
use Rattle.safety.proofs.Sound.Facts.{Sound}
use Rattle.safety.proofs.Sound.Claims.{nameable}
use Rattle.safety.proofs.Sound.Rows.{row_right, startup_range}
use Rattle.safety.proofs.Sound.OnePage.{write_sound, change_sound, unclaimed_page, right_given, owned_valid}

-- one page given back
pub give_back_sound : (v p : ℕ) (m : Lent) → Sound m → (startup m).vmpl ≤ v → owner (table_byte m p) ≡ 3 → Sound (give_back v p m)
unfolding give_back nameable agrees
give_back_sound v p m s c e =
    change_sound (λ b. grant v (own 0 b)) p m s
    (λ h. rw (unclaimed_page m p 3 s h e refl)
    (right_given (startup m).vmpl v (table_byte m p) _ (startup_range m s) c (owned_valid _ _ _ (s.pages p h) (λ z. omega arith)) refl))

-- the pages of a rising list, each free
pub give_all_sound : (v : ℕ) {low high : ℕ} {ps : List ℕ} → Rising low high ps → (m : Lent) → Sound m → (startup m).vmpl ≤ v
    → every (λ p. is_free (table_byte m p)) ps ≡ true → Sound (each (give_back v) ps m)
unfolding each every
give_all_sound v none m s c e = s
give_all_sound v (more {ps = ps} p a b r) m s c e =
    let both = (and-eq-true_iff (is_free (table_byte m p)) (every (λ p. is_free (table_byte m p)) ps)).0 e in
    let after = give_back v p m in
    give_all_sound v r after
    (give_back_sound v p m s c (free_owner (table_byte m p) both.0))
    (rw (same_startup m after (give_back_sheet v p m)) c)
    (sym (every_agree (λ q. is_free (table_byte m q)) (λ q. is_free (table_byte after q)) r
    (λ q l. ap is_free (sym (give_back_other v p m q (λ e. omega arith))))) ∙ both.1)

module _ (caller rcx : ℕ) (h : caller < records) (m : Lent) (s : Sound m) (live : is_live (record_at m caller) ≡ true) where
  withdrawn_sound : Sound (withdrawn (vcpu m caller).vmpl rcx m)
  unfolding withdrawn
  withdrawn_sound =
      let given = give_all_sound (vcpu m caller).vmpl (withdrawn_rising rcx m) m s (row_right m s caller h live).rank (withdrawn_free rcx m) in
      write_sound _ _ _ _ (write_sound _ _ _ _ given)

  -- Withdraw leaves a sound machine sound
  pub withdraw_sound : Sound (withdraw caller rcx m).after
  withdraw_sound = past_withdraw caller rcx m Sound s (λ page. withdrawn_sound)
