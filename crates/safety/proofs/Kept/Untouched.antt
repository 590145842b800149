-- What a call leaves alone: a page that is neither plain nor a calling area keeps its bytes and its table byte through Pvalidate and Deposit, and through
-- Withdraw unless it is given back. Of every machine, sound or not.
use mathlib.Core.Path.{◌≡◌}
use mathlib.Core.Bool.{Bool, true, false, and-false}
use Prim.Native.Nat.{ℕ, ◌≤◌}
use native.Mathlib.Omega.{arith}
use lib.Dec.{eqb, ltb}
use borrow.Author.Tests.{ltb-true, ne_eqb}
use Rattle.rules.specs.Words.{range, exists}
use Rattle.rules.specs.declared.ListCall.{ListCall}
use Rattle.rules.specs.Machine.{Lent, owner, table_byte, owned_by, page_of, vcpu}
use Rattle.rules.specs.Lists.{store_index, coverable, carry_out, carry_out_all, list_call}
use Rattle.rules.specs.Calls.{give_back, withdrawn_pages, withdrawn, withdraw}
use Rattle.safety.proofs.Small.{not_among}
use Rattle.safety.proofs.Elsewhere.{Untouched, untouched_here, untouched_twice, write_elsewhere, change_elsewhere, carry_elsewhere, each_elsewhere}
use Rattle.safety.proofs.Entries.{Keeps, within_keeps}
use Rattle.safety.proofs.Checks.{ListPage, past_list, past_withdraw}

-- ---- the calls on a list

-- owner 2 and above
unfoldable pub guarded : Lent → ℕ → Bool
guarded m p = ltb 1 (owner (table_byte m p))

-- such a page is no page of an owner below
pub apart : (m : Lent) (p q : ℕ) → guarded m p ≡ true → owner (table_byte m q) ≤ 1 → eqb p q ≡ false
unfolding guarded
apart m p q g h = ne_eqb p q (λ e. omega (arith, ltb-true 1 (owner (table_byte m q)) (rw e at g)))

module _ (caller rcx p : ℕ) (m : Lent) (g : guarded m p ≡ true) where
  uncoverable : (vmpl : ℕ) (now : Lent) → Untouched p m now → coverable vmpl rcx now p ≡ false
  unfolding coverable owned_by guarded
  uncoverable vmpl now h =
      let high = ltb-true 1 (owner (table_byte m p)) g in
      let other : eqb (owner (table_byte now p)) 0 ≡ false = rw h.byte (ne_eqb (owner (table_byte m p)) 0 (λ e. omega arith)) in
      simp (other, and-false)

  run_leaves : (call : ListCall) → ListPage rcx m → Keeps call caller rcx (Untouched p m)
  unfolding store_index carry_out_all
  run_leaves call page =
      record {
        stored = λ k now h. untouched_twice h (write_elsewhere p (page_of rcx) _ _ now (apart m p (page_of rcx) g page.low));
        carried = λ e first n wish now h r.
            untouched_twice h
            (each_elsewhere (carry_out wish (vcpu now caller).vmpl) p (carry_elsewhere wish (vcpu now caller).vmpl p) (range first n) now
            (not_among (coverable (vcpu now caller).vmpl rcx now) p (range first n) r.passed (uncoverable (vcpu now caller).vmpl now h)));
      }

  -- Pvalidate and Deposit
  pub list_call_leaves : (budget : ℕ) (call : ListCall) → Untouched p m (list_call budget call caller rcx m).after
  list_call_leaves budget call =
      past_list budget call caller rcx m (Untouched p m) untouched_here
      (λ page. within_keeps call caller rcx (Untouched p m) (run_leaves call page) budget m untouched_here)

  -- Withdraw
  pub withdraw_leaves : exists (eqb p) (withdrawn_pages rcx m) ≡ false → Untouched p m (withdraw caller rcx m).after
  unfolding withdrawn give_back
  withdraw_leaves e =
      past_withdraw caller rcx m (Untouched p m) untouched_here (λ page.
      let away = apart m p (page_of rcx) g page.low in
      untouched_twice (each_elsewhere (give_back (vcpu m caller).vmpl) p (change_elsewhere _ p) (withdrawn_pages rcx m) m e)
      (untouched_twice (write_elsewhere p _ _ _ _ away) (write_elsewhere p _ _ _ _ away)))
