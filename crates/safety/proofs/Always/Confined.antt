-- Statement 10, confined: a call by VMPL c gives no page a permission above c, and no vCPU of a VMPL below c is made, changed or deleted. Of every machine.
use mathlib.Core.Path.{◌≡◌, refl, sym, ◌∙◌, ap}
use mathlib.Core.Logic.{inl}
use mathlib.Core.Bool.{cond, not, ◌||◌, true≢false}
use mathlib.Core.List.{List, []}
use Prim.Native.Nat.{ℕ, ◌≤◌}
use native.Mathlib.Omega.{arith}
use lib.Dec.{leb, eqb}
use lib.ListN.{length, get_or}
use lib.Seq.{sets}
use borrow.Author.Tests.{ltb-false}
use Rattle.std.specs.Prelude.{Ok}
use Rattle.rules.specs.declared.Registers.{Registers}
use Rattle.rules.specs.declared.Outcome.{Outcome}
use Rattle.rules.specs.declared.Outcome.TheVariants.{BadMachine}
use Rattle.rules.specs.declared.Progress.TheVariants.{Success}
use Rattle.rules.specs.declared.ListCall.{ListCall}
use Rattle.rules.specs.declared.Wish.{Wish}
use Rattle.rules.specs.Answers.{Code, Answered, code_number}
use Rattle.rules.specs.Words.{page_size, record_size, entries_a_call, multiple, little, range}
use Rattle.rules.specs.Machine.{Lent, Machine, with_lent, page_of, with_memory, write, zeros, grant, revoke, own, change}
use Rattle.rules.specs.Machine.{fields, laid_out, is_live, holds, needs_page, record_at, vcpu, amend}
use Rattle.rules.specs.Lists.{store_index, wished, carry_out, carry_out_all, list_call}
use Rattle.rules.specs.Calls.{remapped, Asked, asked, free_page, new_record, created, deleted, named_by, delete, give_back, withdrawn, withdrawn_pages}
use Rattle.rules.specs.Call.{Posed, on_lent, on_rcx, clear_pending, set_flag, finish, handle, call}
use Rattle.rules.specs.Runs.{called}
use Rattle.laws.proofs.Ranges.{or_false}
use Rattle.laws.proofs.Numbers.{getD_sets_elsewhere}
use Rattle.laws.proofs.Records.{is_live_zeros}
use Rattle.safety.specs.Terms.{Confined}
use Rattle.safety.specs.Statements.{OnMachines, ConfinementLaw}
use Rattle.safety.proofs.Branches.{on_test, on_refuse, past, on_handle}
use Rattle.laws.proofs.Change.{change_sheet}
use Rattle.safety.proofs.Effects.{three_changed, carry_out_table, carry_out_sheet, entry_sheet, remapped_sheet, created_table, created_sheet}
use Rattle.safety.proofs.Effects.{deleted_table, deleted_sheet}
use Rattle.safety.proofs.Entries.{Keeps, within_keeps}
use Rattle.safety.proofs.Checks.{CreateFit, past_list, past_withdraw, past_remap, past_create, past_delete}
use Rattle.safety.proofs.Always.Modest.{Bounded, same_bounded, bounded_here, joined_bounded, bounded_twice, each_bounded, own_modest, revoke_modest}
use Rattle.safety.proofs.Always.Entered.{Entered, entered_here, ended_entered, handled_entered}
use Rattle.safety.proofs.Always.Modest.{given_modest, both_modest, wished_modest, three_bounded, change_bounded, amend_bounded}

-- ---- Pvalidate and Deposit

carry_out_bounded : (wish : Wish) (c p : ℕ) (m : Lent) → Bounded c m (carry_out wish c p m)
carry_out_bounded wish c p m =
    bounded_twice (change_bounded c (wished wish c) p m (wished_modest wish c))
    (same_bounded c (change (wished wish c) p m) _ (carry_out_table wish c p m) (carry_out_sheet wish c p m ∙ sym (change_sheet (wished wish c) p m)))

-- so far bounded, and the sheet as it was: the caller's VMPL is the same
record Going (caller : ℕ) (m now : Lent) : Type 0 where
  sheet : now.sheet ≡ m.sheet
  good : Bounded (vcpu m caller).vmpl m now

module _ (caller rcx : ℕ) (m : Lent) where
  abbrev mine : ℕ
  mine = (vcpu m caller).vmpl

  entry_bounded : (wish : Wish) (first n : ℕ) (now : Lent) → now.sheet ≡ m.sheet
      → Bounded mine now (carry_out_all wish (vcpu now caller).vmpl first n now)
  unfolding carry_out_all vcpu record_at
  entry_bounded wish first n now e =
      rw (ap (λ rows. (fields (get_or rows caller [])).vmpl) e)
      (each_bounded mine (carry_out wish mine) (carry_out_bounded wish mine) (range first n) now)

  going : (call : ListCall) → Keeps call caller rcx (Going caller m)
  unfolding store_index write with_memory
  going call =
      record {
        stored = λ k now h. record { sheet = h.sheet; good = bounded_twice h.good (same_bounded mine now _ refl refl) };
        carried = λ e first n wish now h r. record {
          sheet = entry_sheet wish _ first n now ∙ h.sheet;
          good = bounded_twice h.good (entry_bounded wish first n now h.sheet);
        };
      }

  list_call_bounded : (budget : ℕ) (call : ListCall) → Bounded mine m (list_call budget call caller rcx m).after
  list_call_bounded budget call =
      past_list budget call caller rcx m (Bounded mine m) (bounded_here mine m)
      (λ page. (within_keeps call caller rcx (Going caller m) (going call) budget m (record { sheet = refl; good = bounded_here mine m })).good)

-- ---- the other calls, their checks passed

withdrawn_bounded : (c rcx : ℕ) (m : Lent) → Bounded c m (withdrawn c rcx m)
unfolding withdrawn give_back write with_memory
withdrawn_bounded c rcx m =
    bounded_twice (each_bounded c (give_back c) (λ p now. change_bounded c _ p now (given_modest c)) (withdrawn_pages rcx m) m)
    (same_bounded c _ _ refl refl)

-- Remap amends the caller's record, whose VMPL stays
renamed_bounded : (caller new : ℕ) (m : Lent) → Bounded (vcpu m caller).vmpl m (amend (λ r. sets r 12 (little 4 new)) caller m)
unfolding vcpu fields
renamed_bounded caller new m =
    amend_bounded _ _ caller m (λ live. omega (arith, getD_sets_elsewhere (record_at m caller) 12 (little 4 new) 1 0 (inl (omega arith))))
    (λ live. omega arith)

remapped_bounded : (caller old new : ℕ) (m : Lent) → Bounded (vcpu m caller).vmpl m (remapped caller old new m)
unfolding remapped amend write with_memory
remapped_bounded caller old new m =
    let c = (vcpu m caller).vmpl in
    let mid : Lent = cond (eqb old new) m (change (own 0) old m) in
    joined_bounded c m (change (own 1) new mid) (amend (λ r. sets r 12 (little 4 new)) caller m) _
    (bounded_twice (on_test (Bounded c m) (eqb old new) _ _ (λ t. bounded_here c m) (λ t. change_bounded c (own 0) old m (own_modest c 0 refl)))
    (change_bounded c (own 1) new mid (own_modest c 1 refl)))
    (renamed_bounded caller new m) refl (remapped_sheet caller old new m)

-- Create fills a free record, with a VMPL that is not below the caller's
created_bounded : (a : Asked) (i : ℕ) (m : Lent) → CreateFit a i m → Bounded a.caller_vmpl m (created a i m)
unfolding amend new_record fields laid_out
created_bounded a i m fit =
    let c = a.caller_vmpl in
    let new : List ℕ → List ℕ = λ old. new_record a i m in
    joined_bounded c m
    (three_changed (λ b. own 5 (revoke b)) (own 1) (own 4) a.vmsa a.calling (free_page m) (needs_page i) m) (amend new i m) _
    (three_bounded c _ (own 1) (own 4) a.vmsa a.calling (free_page m) (needs_page i) m
    (both_modest c revoke (own 5) (revoke_modest c) (own_modest c 5 refl)) (own_modest c 1 refl) (own_modest c 4 refl))
    (amend_bounded c new i m (λ live. fit.rank) (λ live. absurd (true≢false (sym live ∙ fit.dead))))
    (created_table a i m) (created_sheet a i m)

-- Delete is done of a record whose VMPL is not below the caller's
delete_rank : (caller rcx : ℕ) (m : Lent) → (delete caller rcx m).answer ≡ Ok Success → (vcpu m caller).vmpl ≤ (vcpu m (named_by (page_of rcx) m)).vmpl
unfolding delete code_number
delete_rank caller rcx m =
    let i = named_by (page_of rcx) m in
    on_refuse (λ (a : Answered Code Lent). a.answer ≡ Ok Success → (vcpu m caller).vmpl ≤ (vcpu m i).vmpl) m _ _ _
    (λ t done. absurd (omega (arith, ap code_number done)))
    (λ t done. ltb-false _ _ (or_false (not (multiple page_size rcx) || leb (length m.sheet) i || eqb i 0) _ t).1)

-- and clears it
deleted_bounded : (c i : ℕ) (m : Lent) → c ≤ (vcpu m i).vmpl → Bounded c m (deleted c i m)
unfolding amend
deleted_bounded c i m rank =
    let v = vcpu m i in
    let held = holds (record_at m i) in
    let new : List ℕ → List ℕ = λ old. zeros record_size in
    joined_bounded c m (three_changed (λ b. grant c (own 0 b)) (own 0) (own 3) v.vmsa v.calling v.pool held m) (amend new i m) _
    (three_bounded c _ (own 0) (own 3) v.vmsa v.calling v.pool held m (given_modest c) (own_modest c 0 refl) (own_modest c 3 refl))
    (amend_bounded c new i m (λ live. absurd (true≢false (sym live ∙ is_live_zeros record_size))) (λ live. rank))
    (deleted_table c i m) (deleted_sheet c i m)

-- ---- a call

-- the last writes are to memory
ended : (caller : ℕ) (g : Registers) (c : ℕ) (m : Lent) (a : Answered Code (Posed Registers Machine)) → Bounded c m a.after.machine.lent
    → Bounded c m (finish caller g a).after.machine.lent
unfolding finish with_lent clear_pending set_flag write with_memory
ended caller g c m a h =
    let now = a.after.machine.lent in
    bounded_twice h
    (on_test (λ (x : Answered Outcome (Posed Registers Machine)). Bounded c now x.after.machine.lent) (is_live (record_at now caller)) _ _
    (λ t. same_bounded c now _ refl refl) (λ t. same_bounded c now _ refl refl))

-- whatever it is handled as
handled : (caller : ℕ) (g : Registers) (m : Machine)
    → Bounded (vcpu m.lent caller).vmpl m.lent (handle caller (record { registers = g; machine = m })).after.machine.lent
unfolding on_lent on_rcx with_lent asked
handled caller g m =
    let now = m.lent in
    let c = (vcpu now caller).vmpl in
    let still = bounded_here c now in
    on_handle caller (record { registers = g; machine = m }) (λ a. Bounded c now a.after.machine.lent)
    (record {
      bad_pending = still;
      unknown_protocol = λ e. still;
      remaps = λ e. past_remap caller g.rcx now (Bounded c now) still (λ fit. remapped_bounded caller _ _ now);
      validates = λ e. list_call_bounded caller g.rcx now entries_a_call _;
      creates = λ e. past_create caller g.rcx g.rdx g.r8 now (Bounded c now) still (created_bounded _ _ now);
      deletes = λ e. past_delete caller g.rcx now (Bounded c now) still (λ fit. deleted_bounded c _ now (delete_rank caller g.rcx now fit.done));
      deposits = λ e. list_call_bounded caller g.rcx now entries_a_call _;
      withdraws = λ e. past_withdraw caller g.rcx now (Bounded c now) still (λ page. withdrawn_bounded c g.rcx now);
      queries = λ e. still;
      configures = λ e. still;
      unknown_call = λ e. still;
    })

-- ---- with what the VMSAs say

whole : {c : ℕ} {m after : Lent} → Bounded c m after → Entered c m after → Confined c m after
whole b e = record { permissions = b.permissions; made = b.made; deleted = b.deleted; entered = e }

confined_here : (c : ℕ) (m : Lent) → Confined c m m
confined_here c m = whole (bounded_here c m) (entered_here c m)

-- a call that left everything is confined
pub confined_still : (caller : ℕ) (g : Registers) (m : Lent)
    → ConfinementLaw caller g m (record { answer = BadMachine; after = record { registers = g; machine = record { lent = m } } })
unfolding ConfinementLaw
confined_still caller g m = confined_here (vcpu m caller).vmpl m

-- and every call is
pub confined : OnMachines ConfinementLaw
unfolding OnMachines ConfinementLaw called call
confined caller g m =
    let c = (vcpu m.lent caller).vmpl in
    let P : Posed Registers Machine → Type 0 = λ s. Confined c m.lent s.machine.lent in
    past P _ _ _ _ (confined_here c m.lent)
    (λ good. past P _ _ _ _ (confined_here c m.lent)
    (λ real. whole (ended caller g c m.lent _ (handled caller g m)) (ended_entered caller g c m.lent _ (handled_entered caller g m))))
