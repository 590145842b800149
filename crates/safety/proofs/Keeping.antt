-- Whatever each of the calls, each write and each mark keep, a whole call, a step and a run of steps keep.
use mathlib.Core.List.{List, [], ◌∷◌}
use Prim.Native.Nat.{ℕ}
use Rattle.rules.specs.Words.{entries_a_call}
use Rattle.rules.specs.declared.Registers.{Registers}
use Rattle.rules.specs.declared.ListCall.{ListCall}
use Rattle.rules.specs.declared.ListCall.TheVariants.{Pvalidate, Deposit}
use Rattle.rules.specs.Answers.{Code, Answered, refuse}
use Rattle.rules.specs.Machine.{Lent, Machine, with_lent, write, is_live, record_at}
use Rattle.rules.specs.Steps.{store, mark}
use Rattle.rules.specs.Lists.{list_call}
use Rattle.rules.specs.Calls.{remap, create, delete, withdraw}
use Rattle.rules.specs.Call.{Posed, bad_machine, no_call, on_lent, on_rcx, handle, clear_pending, set_flag, finish, call}
use Rattle.rules.specs.Runs.{Step, calls, stores, marks, called, step, run_steps}
use Rattle.laws.proofs.Ranges.{by_test}
use Rattle.safety.proofs.Branches.{past, on_handle}
use Rattle.safety.proofs.Checks.{Caller, caller_of}

-- each call that changes the lent buffers, and each of the other steps, keeps P
pub record EachKeeps (P : Lent → Type 0) : Type 0 where
  pub remaps : (caller rcx : ℕ) (m : Lent) → P m → Caller caller m → P (remap caller rcx m).after
  pub lists : (kind : ListCall) (caller rcx : ℕ) (m : Lent) → P m → Caller caller m → P (list_call entries_a_call kind caller rcx m).after
  pub creates : (caller rcx rdx r8 : ℕ) (m : Lent) → P m → Caller caller m → P (create caller rcx rdx r8 m).after
  pub deletes : (caller rcx : ℕ) (m : Lent) → P m → Caller caller m → P (delete caller rcx m).after
  pub withdraws : (caller rcx : ℕ) (m : Lent) → P m → Caller caller m → P (withdraw caller rcx m).after
  pub writes : (p o : ℕ) (bytes : List ℕ) (m : Lent) → P m → P (write p o bytes m)
  pub mark_kept : (i value : ℕ) (m : Lent) → P m → P (mark i value m).after

module _ (P : Lent → Type 0) (each : EachKeeps P) where
  module _ (caller : ℕ) (g : Registers) (m : Machine) (h : P m.lent) where
    -- a call that is handled
    pub handle_keeps : Caller caller m.lent → P (handle caller (record { registers = g; machine = m })).after.machine.lent
    unfolding on_lent on_rcx with_lent
    handle_keeps c =
        on_handle caller (record { registers = g; machine = m }) (λ a. P a.after.machine.lent)
        (record {
          bad_pending = h;
          unknown_protocol = λ e. h;
          remaps = λ e. each.remaps caller g.rcx m.lent h c;
          validates = λ e. each.lists Pvalidate caller g.rcx m.lent h c;
          creates = λ e. each.creates caller g.rcx g.rdx g.r8 m.lent h c;
          deletes = λ e. each.deletes caller g.rcx m.lent h c;
          deposits = λ e. each.lists Deposit caller g.rcx m.lent h c;
          withdraws = λ e. each.withdraws caller g.rcx m.lent h c;
          queries = λ e. h;
          configures = λ e. h;
          unknown_call = λ e. h;
        })

  -- the last writes
  finish_keeps : (caller : ℕ) (g : Registers) (a : Answered Code (Posed Registers Machine)) → P a.after.machine.lent
      → P (finish caller g a).after.machine.lent
  unfolding finish clear_pending set_flag with_lent
  finish_keeps caller g a h =
      let m = a.after.machine.lent in
      by_test (is_live (record_at m caller)) (λ t. rw t (each.writes _ _ _ _ (each.writes _ _ _ m h))) (λ t. rw t (each.writes _ _ _ m h))

  -- a call, whole
  pub called_keeps : (caller : ℕ) (g : Registers) (m : Machine) → P m.lent → P (called caller g m).after.machine.lent
  unfolding called call refuse
  called_keeps caller g m h =
      by_test (bad_machine caller m.lent) (λ t. rw t h)
      (λ good.
      by_test (no_call caller g m.lent) (λ t. rw (good, t) h)
      (λ t. rw (good, t) (finish_keeps caller g _ (handle_keeps caller g m h (caller_of caller m.lent good)))))

  step_keeps : (st : Step) (m : Machine) → P m.lent → P (step st m).lent
  unfolding step store with_lent
  step_keeps (calls caller g) m h = called_keeps caller g m h
  step_keeps (stores c p offset bytes) m h = past P m.lent _ _ _ h (λ t. each.writes p offset bytes m.lent h)
  step_keeps (marks i value) m h = each.mark_kept i value m.lent h

  -- a run of steps
  pub run_keeps : (ss : List Step) (m : Machine) → P m.lent → P (run_steps ss m).lent
  unfolding run_steps
  run_keeps [] m h = h
  run_keeps (st ∷ ss) m h = run_keeps ss (step st m) (step_keeps st m h)
