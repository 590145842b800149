-- Statement 3, kept: no step changes a page of owner 2 to 5, but for the deletion of that VMSA, the giving back of that page, and pool pages that turn from
-- free to in use and back.
use mathlib.Core.Path.{◌≡◌, refl, sym, ◌∙◌, ap}
use mathlib.Core.Logic.{◌⊎◌, inl, inr}
use mathlib.Core.Bool.{true, false, not, ◌&&◌, ◌||◌, true≢false, and-eq-true_iff}
use Prim.Native.Nat.{ℕ, ◌+◌, ◌/◌, ◌<◌}
use native.Mathlib.Omega.{arith}
use lib.Dec.{eqb, ltb, leb}
use lib.ListN.{length}
use borrow.Author.Tests.{eqb-true, eqb-false, eq-eqb, ltb-true, not-false}
use Rattle.std.specs.Prelude.{Ok}
use Rattle.rules.specs.Words.{page_size, records, entries_a_call, multiple, exists}
use Rattle.rules.specs.declared.Registers.{Registers}
use Rattle.rules.specs.declared.Progress.TheVariants.{Success}
use Rattle.rules.specs.declared.ListCall.TheVariants.{Pvalidate, Deposit}
use Rattle.rules.specs.Answers.{Code, Answered, refuse, code_number}
use Rattle.rules.specs.Machine.{Lent, Machine, with_lent, below, owner, valid, permitted, table_byte, page_of, offset_of}
use Rattle.rules.specs.Machine.{is_live, record_at, vcpu, startup, with_memory, write}
use Rattle.rules.specs.Steps.{may_store, store, mark}
use Rattle.rules.specs.Lists.{bad_list_page}
use Rattle.rules.specs.Calls.{withdrawn_pages, withdraw}
use Rattle.rules.specs.Call.{Posed, bad_machine, no_call, on_lent, on_rcx, handle, with_rax, clear_pending, set_flag, finish, call}
use Rattle.rules.specs.Runs.{Step, calls, stores, marks, called, step, in_pool, asks_for}
use Rattle.laws.proofs.Ranges.{by_test, or_false}
use Rattle.safety.specs.Terms.{Back, done_well, deleted_by, deletes, gives_back, SamePage, KeptPage}
use Rattle.safety.specs.Statements.{MonitorKept, VmsaKept, PoolKept}
use Rattle.safety.proofs.Branches.{Asks, past, on_handle, called_real}
use Rattle.safety.proofs.Checks.{Caller, caller_of, list_page, given_free}
use Rattle.safety.proofs.Sound.Facts.{Sound, open_sound}
use Rattle.safety.proofs.Sound.Sizes.{sheet_length}
use Rattle.safety.proofs.Sound.Rows.{startup_lives}
use Rattle.safety.proofs.Keeping.{EachKeeps, handle_keeps}
use Rattle.safety.proofs.Pool.Counts.{pooled, in_pool_owner}
use Rattle.safety.proofs.Kept.Sealed.{sealed_page}
use Rattle.safety.proofs.Elsewhere.{Untouched, untouched_here, untouched_twice, write_elsewhere, amend_leaves, kept_page}
use Rattle.safety.proofs.Kept.Untouched.{guarded}
use Rattle.safety.proofs.Kept.Untouched.{list_call_leaves, withdraw_leaves}
use Rattle.safety.proofs.Kept.Given.{Given, withdrawn_gives, finish_gives}
use Rattle.safety.proofs.Kept.Fates.{Owned, Fate, same, turned, excused, calling_low, then_untouched, remap_leaves, create_fate, delete_fate}

-- what excuses a change of page p by a step
Excuse : ℕ → Step → Machine → Type 0
Excuse p s m =
    ((owner (table_byte m.lent p) ≡ 5) × (deletes p s m ≡ true)) ⊎ ((owner (table_byte m.lent p) ≡ 3) × (gives_back p s m ≡ true))

-- a page of the pool is of owner 2 or above
pool_guards : (m : Lent) (p : ℕ) → in_pool (table_byte m p) ≡ true → guarded m p ≡ true
unfolding in_pool guarded
pool_guards m p e =
    let b = table_byte m p in
    by_test (eqb (owner b) 3) (λ t. rw (eqb-true (owner b) 3 t)) (λ t. rw (eqb-true (owner b) 4 (rw t at e)))

module _ (each : EachKeeps Sound) (owned : (m : Lent) → Sound m → (i : ℕ) → i < records → is_live (record_at m i) ≡ true → Owned i m) where
  module _ (caller : ℕ) (g : Registers) (m : Machine) (s : Sound m.lent) (p : ℕ) (guard : guarded m.lent p ≡ true) where
    -- the same of a call that was handled with this answer
    HandledExcuse : Code → Lent → Type 0
    HandledExcuse code after =
        (code ≡ Ok Success)
        × (((owner (table_byte m.lent p) ≡ 5) × Asks 3 g × (p ≡ page_of g.rcx))
        ⊎ ((owner (table_byte m.lent p) ≡ 3) × Asks 5 g × Given caller g.rcx p after))

    withdraw_fate : Caller caller m.lent → Asks 5 g
        → Fate (HandledExcuse (withdraw caller g.rcx m.lent).answer (withdraw caller g.rcx m.lent).after) p m.lent
        (withdraw caller g.rcx m.lent).after
    unfolding HandledExcuse withdraw refuse
    withdraw_fate c e =
        let rcx = g.rcx in
        let vmpl = (vcpu m.lent caller).vmpl in
        let odd = not (multiple 8 rcx) in
        by_test (exists (eqb p) (withdrawn_pages rcx m.lent))
        (λ t.
        by_test (odd || eqb (offset_of rcx) 0xFF8) (λ u. rw u (same untouched_here))
        (λ u.
        by_test (bad_list_page vmpl rcx m.lent) (λ v. rw (u, v) (same untouched_here))
        (λ v.
        let even = not-false _ (or_false odd (eqb (offset_of rcx) 0xFF8) u).0 in
        let given = withdrawn_gives caller rcx p m.lent s c even (list_page vmpl rcx m.lent v) t in
        rw (u, v) (excused (refl, inr (given_free rcx p m.lent t, e, given))))))
        (λ t. same (withdraw_leaves caller rcx p m.lent guard t))

    handle_fate : Caller caller m.lent
        → Fate
        (HandledExcuse (handle caller (record { registers = g; machine = m })).answer (handle caller (record { registers = g; machine = m })).after.machine.lent)
        p m.lent (handle caller (record { registers = g; machine = m })).after.machine.lent
    unfolding on_lent on_rcx with_lent HandledExcuse
    handle_fate c =
        on_handle caller (record { registers = g; machine = m }) (λ a. Fate (HandledExcuse a.answer a.after.machine.lent) p m.lent a.after.machine.lent)
        (record {
          bad_pending = same untouched_here;
          unknown_protocol = λ e. same untouched_here;
          remaps = λ e. same (remap_leaves caller g.rcx p m.lent guard (owned m.lent s caller c.below c.live));
          validates = λ e. same (list_call_leaves caller g.rcx p m.lent guard entries_a_call Pvalidate);
          creates = λ e. create_fate caller g.rcx p m.lent guard g.rdx g.r8;
          deletes = λ e.
              delete_fate caller g.rcx p m.lent guard (λ i h. owned m.lent s i (rw (← sheet_length m.lent s.tables) h))
              (λ done five here. (done, inl (five, e, here)));
          deposits = λ e. same (list_call_leaves caller g.rcx p m.lent guard entries_a_call Deposit);
          withdraws = withdraw_fate c;
          queries = λ e. same untouched_here;
          configures = λ e. same untouched_here;
          unknown_call = λ e. same untouched_here;
        })

  -- the last writes are in calling areas
  finish_leaves : (caller : ℕ) (before : Registers) (a : Answered Code (Posed Registers Machine)) → Sound a.after.machine.lent
      → caller < records → (p : ℕ) → guarded a.after.machine.lent p ≡ true
      → Untouched p a.after.machine.lent (finish caller before a).after.machine.lent
  unfolding finish clear_pending set_flag with_lent startup vcpu record_at write with_memory
  finish_leaves caller before a s c p guard =
      let m = a.after.machine.lent in
      let elsewhere : (i : ℕ) → i < records → is_live (record_at m i) ≡ true → eqb p (vcpu m i).calling ≡ false
      = λ i h live. calling_low i m (owned m s i h live) p guard in
      let flag = elsewhere 0 (omega arith) (startup_lives m s) in
      by_test (is_live (record_at m caller))
      (λ t. rw t
      (untouched_twice (write_elsewhere p (vcpu m caller).calling 0 _ m (elsewhere caller c t)) (write_elsewhere p (vcpu m 0).calling 1 _ _ flag)))
      (λ t. rw t (write_elsewhere p (vcpu m 0).calling 1 _ m flag))

  -- a call that answered success is done well
  finish_well : (caller : ℕ) (before : Registers) (a : Answered Code (Posed Registers Machine)) → a.answer ≡ Ok Success
      → done_well (finish caller before a).answer (finish caller before a).after.registers ≡ true
  unfolding finish done_well with_rax code_number
  finish_well caller before a e =
      by_test (is_live (record_at a.after.machine.lent caller)) (λ t. rw (t, e)) (λ t. rw t)

  -- a Delete that was done well is excused for the VMSA that it names
  deleted_told : (p : ℕ) (g : Registers) (a : Back) → Asks 3 g → p ≡ page_of g.rcx → done_well a.answer a.after.registers ≡ true
      → deleted_by p g a ≡ true
  unfolding deleted_by asks_for
  deleted_told p g a asks here well = simp (eq-eqb _ _ asks.spoken, eq-eqb _ _ asks.number, eq-eqb _ _ (sym here), well)

  module _ (caller : ℕ) (g : Registers) (m : Machine) (s : Sound m.lent) (p : ℕ) (guard : guarded m.lent p ≡ true) where
    module _ (good : bad_machine caller m.lent ≡ false) (real : no_call caller g m.lent ≡ false) where
      excuse_told : HandledExcuse caller g m s p guard (handle caller (record { registers = g; machine = m })).answer
          (handle caller (record { registers = g; machine = m })).after.machine.lent
          → Excuse p (calls caller g) m
      unfolding HandledExcuse Excuse deletes gives_back
      excuse_told (done, inl (five, asks, here)) =
          inl (five, rw (called_real caller g m good real) (deleted_told p g _ asks here (finish_well caller g _ done)))
      excuse_told (done, inr (three, asks, given)) =
          inr (three, rw (called_real caller g m good real) (finish_gives caller g _ p given asks done))

      finish_fate : Caller caller m.lent
          → Fate (HandledExcuse caller g m s p guard (handle caller (record { registers = g; machine = m })).answer
          (handle caller (record { registers = g; machine = m })).after.machine.lent) p m.lent
          (handle caller (record { registers = g; machine = m })).after.machine.lent
          → Fate (Excuse p (calls caller g) m) p m.lent (finish caller g (handle caller (record { registers = g; machine = m }))).after.machine.lent
      unfolding guarded
      finish_fate c (same h) =
          then_untouched (same h)
          (finish_leaves caller g _ (handle_keeps Sound each caller g m s c) c.below p (rw h.byte guard))
      finish_fate c (turned h before after) =
          then_untouched (turned h before after)
          (finish_leaves caller g _ (handle_keeps Sound each caller g m s c) c.below p (pool_guards _ p after))
      finish_fate c (excused e) = excused (excuse_told e)

    -- a call
    called_fate : Fate (Excuse p (calls caller g) m) p m.lent (called caller g m).after.machine.lent
    unfolding called call refuse
    called_fate =
        by_test (bad_machine caller m.lent) (λ t. rw t (same untouched_here))
        (λ good.
        by_test (no_call caller g m.lent) (λ t. rw (good, t) (same untouched_here))
        (λ real.
        let c = caller_of caller m.lent good in
        rw (good, real) (finish_fate good real c (handle_fate caller g m s p guard c))))

  -- a store is to a page that is permitted
  store_elsewhere : (c q offset n : ℕ) (m : Lent) → Sound m → (p : ℕ) → guarded m p ≡ true → may_store c q offset n m ≡ true → eqb p q ≡ false
  unfolding may_store guarded
  store_elsewhere c q offset n m s p guard may =
      let allowed = ((and-eq-true_iff (below m q && leb (offset + n) page_size && valid (table_byte m q)) (permitted c (table_byte m q))).0 may).1 in
      let none = sealed_page m s p c (ltb-true 1 (owner (table_byte m p)) guard) in
      by_test (eqb p q) (λ t. absurd (true≢false (sym allowed ∙ rw (← eqb-true p q t) none))) (λ t. t)

  -- any step
  step_fate : (st : Step) (m : Machine) → Sound m.lent → (p : ℕ) → guarded m.lent p ≡ true → Fate (Excuse p st m) p m.lent (step st m).lent
  unfolding step store mark may_store with_lent
  step_fate (calls caller g) m s p guard = called_fate caller g m s p guard
  step_fate (stores c q offset bytes) m s p guard =
      past (Fate (Excuse p (stores c q offset bytes) m) p m.lent) m.lent _ _ _ (same untouched_here)
      (λ t. same (write_elsewhere p q offset bytes m.lent (store_elsewhere c q offset (length bytes) m.lent s p guard (not-false _ t))))
  step_fate (marks i value) m s p guard =
      past (Fate (Excuse p (marks i value) m) p m.lent) m.lent _ _ _ (same untouched_here) (λ t. same (amend_leaves _ i p m.lent))

  -- ---- the statements

  owner_guards : (m : Lent) (p o : ℕ) → owner (table_byte m p) ≡ o → ltb 1 o ≡ true → guarded m p ≡ true
  unfolding guarded
  owner_guards m p o e h = rw e h

  -- an owner is not another one
  no_owner : {A : Type 0} (b o q : ℕ) → eqb o q ≡ false → owner b ≡ o → owner b ≡ q → A
  no_owner b o q n e f = absurd (eqb-false o q n (sym e ∙ f))

  no_pool : {A : Type 0} (b o : ℕ) → pooled o ≡ false → owner b ≡ o → in_pool b ≡ true → A
  no_pool b o n e t = absurd (true≢false (sym t ∙ in_pool_owner b o e ∙ n))

  same_page : {p : ℕ} {m after : Lent} → Untouched p m after → SamePage p m after
  same_page h = record { bytes = h.page; flags = ap (λ (b : ℕ). b / 8) h.byte }

  -- a page of owner 2
  pub monitor_kept : MonitorKept
  unfolding MonitorKept Excuse pooled
  monitor_kept st m e p two = go (step_fate st m (open_sound _ e) p (owner_guards m.lent p 2 two refl))
    where
      go : Fate (Excuse p st m) p m.lent (step st m).lent → KeptPage p m.lent (step st m).lent
      go (same h) = kept_page h
      go (turned h before after) = no_pool _ 2 refl two before
      go (excused (inl (five, d))) = no_owner _ 2 5 refl two five
      go (excused (inr (three, d))) = no_owner _ 2 3 refl two three

  -- of owner 5
  pub vmsa_kept : VmsaKept
  unfolding VmsaKept Excuse pooled
  vmsa_kept st m e p five not_deleted = go (step_fate st m (open_sound _ e) p (owner_guards m.lent p 5 five refl))
    where
      go : Fate (Excuse p st m) p m.lent (step st m).lent → KeptPage p m.lent (step st m).lent
      go (same h) = kept_page h
      go (turned h before after) = no_pool _ 5 refl five before
      go (excused (inl (f, d))) = absurd (true≢false (sym d ∙ not_deleted))
      go (excused (inr (three, d))) = no_owner _ 5 3 refl five three

  -- of owner 3 or 4
  pub pool_kept : PoolKept
  unfolding PoolKept Excuse pooled
  pool_kept st m e p in_it not_given = go (step_fate st m (open_sound _ e) p (pool_guards m.lent p in_it))
    where
      go : Fate (Excuse p st m) p m.lent (step st m).lent → SamePage p m.lent (step st m).lent × (in_pool (table_byte (step st m).lent p) ≡ true)
      go (same h) = (same_page h, ap in_pool h.byte ∙ in_it)
      go (turned h before after) = (h, after)
      go (excused (inl (five, d))) = no_pool _ 5 refl five in_it
      go (excused (inr (three, d))) = absurd (true≢false (sym d ∙ not_given))
