-- Statement 7, gone: the caller asked for it and deleted itself, and that left registers and pending byte as they were, and of memory all but the VMSA and the
-- flag. A caller that is told that its call was handled is still there.
use mathlib.Core.Path.{◌≡◌, refl, sym, ◌∙◌, ap}
use mathlib.Core.Logic.{◌⊎◌, inl, inr}
use mathlib.Core.Bool.{Bool, true, false, cond}
use mathlib.Core.List.{List, [], ◌∷◌}
use Prim.Native.Nat.{ℕ, ◌<◌}
use native.Mathlib.Omega.{arith}
use lib.Dec.{eqb, ltb}
use lib.ListN.{length, get_or, set}
use lib.Seq.{get_or-set_same, get_or-set_other, set_out}
use borrow.Author.Tests.{ltb-true, ltb-false, eq-eqb, eqb-true, eqb-false, ne_eqb}
use Rattle.rules.specs.declared.Registers.{Registers}
use Rattle.rules.specs.declared.Outcome.TheVariants.{Handled, Gone, BadMachine}
use Rattle.rules.specs.declared.ListCall.{ListCall}
use Rattle.rules.specs.declared.ListCall.TheVariants.{Pvalidate, Deposit}
use Rattle.rules.specs.Answers.{Code, Answered, outcome_number}
use Rattle.rules.specs.Words.{record_size, entries_a_call}
use Rattle.rules.specs.Machine.{Lent, Machine, with_lent, page_of, page_at, with_memory, written, write, zeros, grant, own, change, table_byte}
use Rattle.rules.specs.Machine.{is_live, holds, record_at, vcpu, startup, efer}
use Rattle.rules.specs.Lists.{list_call}
use Rattle.rules.specs.Calls.{remap, free_record, new_record, create, Asked, asked, clear_svme, deleted, named_by, delete, withdraw, any_free}
use Rattle.rules.specs.Call.{Posed, pending, on_lent, on_rcx, handle, clear_pending, set_flag, finish, call}
use Rattle.rules.specs.Runs.{asks_for, called}
use Rattle.laws.proofs.Ranges.{by_test}
use Rattle.laws.proofs.Records.{is_live_laid_out, is_live_remapped}
use Rattle.safety.specs.Terms.{unreal, svme_cleared, changed_byte, left_table, LeftByGone}
use Rattle.safety.specs.Statements.{OnMachines, GoneLaw}
use Rattle.laws.proofs.Change.{change_puts}
use Rattle.safety.proofs.Effects.{three_changed, written_elsewhere, remapped_sheet, created_sheet, deleted_sheet, deleted_table, deleted_memory, withdrawn_sheet}
use Rattle.safety.proofs.Entries.{run_within_sheet}
use Rattle.safety.proofs.Branches.{never, on_handle, called_real, real_call}
use Rattle.safety.proofs.Checks.{caller_of, past_remap, past_list, past_create, past_delete, past_withdraw}

-- ---- which calls keep the caller's record live

-- a record changed so that it stays live, if it was
amended_live : (f : List ℕ → List ℕ) → ((r : List ℕ) → is_live (f r) ≡ is_live r) → (rows : List (List ℕ)) (i : ℕ)
    → is_live (get_or (set rows i (f (get_or rows i []))) i []) ≡ is_live (get_or rows i [])
amended_live f same rows i =
    by_test (ltb i (length rows))
    (λ t. rw (get_or-set_same rows i (f (get_or rows i [])) [] (ltb-true i (length rows) t)) (same (get_or rows i [])))
    (λ t. rw (set_out rows i (f (get_or rows i [])) (ltb-false i (length rows) t)))

-- another element set
other_row : (rows : List (List ℕ)) (i j : ℕ) (r : List ℕ) → eqb i j ≡ false → get_or (set rows i r) j [] ≡ get_or rows j []
other_row rows i j r t = get_or-set_other rows i j r [] (λ e. eqb-false i j t (sym e))

-- a record filled with a live one
filled_live : (rows : List (List ℕ)) (i j : ℕ) (r : List ℕ) → i < length rows → is_live r ≡ true → is_live (get_or rows j []) ≡ true
    → is_live (get_or (set rows i r) j []) ≡ true
filled_live rows i j r h new old =
    by_test (eqb i j)
    (λ u. rw (← eqb-true i j u, get_or-set_same rows i r [] h) new)
    (λ u. rw (other_row rows i j r u) old)

new_live : (a : Asked) (i : ℕ) (m : Lent) → is_live (new_record a i m) ≡ true
unfolding new_record
new_live a i m = is_live_laid_out _

-- the caller deleted itself
record SelfDeleted (caller : ℕ) (g : Registers) (m after : Lent) : Type 0 where
  asked : asks_for 3 g ≡ true
  named : page_of g.rcx ≡ (vcpu m caller).vmsa
  other : caller ≡ 0 → ⊥
  reached : after ≡ deleted (vcpu m caller).vmpl caller m

module _ (caller : ℕ) (g : Registers) (m : Lent) (live : is_live (get_or m.sheet caller []) ≡ true) where
  abbrev Stays : Lent → Type 0
  Stays after = is_live (get_or after.sheet caller []) ≡ true

  -- it stays live, or the caller deleted itself
  abbrev Ends : Lent → Type 0
  Ends after = Stays after ⊎ SelfDeleted caller g m after

  same_sheet : (sheet : List (List ℕ)) → sheet ≡ m.sheet → is_live (get_or sheet caller []) ≡ true
  same_sheet sheet e = rw e live

  remap_ends : (rcx : ℕ) → Ends (remap caller rcx m).after
  unfolding record_at
  remap_ends rcx =
      past_remap caller rcx m Ends (inl live) (λ fit.
      inl (rw (remapped_sheet caller (vcpu m caller).calling (page_of rcx) m)
      (amended_live _ (λ r. is_live_remapped r (page_of rcx)) m.sheet caller ∙ live)))

  list_ends : (call : ListCall) (rcx : ℕ) → Ends (list_call entries_a_call call caller rcx m).after
  list_ends call rcx =
      past_list entries_a_call call caller rcx m Ends (inl live) (λ page. inl (same_sheet _ (run_within_sheet entries_a_call call caller rcx m)))

  create_ends : (rcx rdx r8 : ℕ) → Ends (create caller rcx rdx r8 m).after
  create_ends rcx rdx r8 =
      past_create caller rcx rdx r8 m Ends (inl live) (λ fit.
      let a : Asked = asked caller rcx rdx r8 m in
      let i = free_record m in
      inl (rw (created_sheet a i m) (filled_live m.sheet i caller (new_record a i m) fit.row (new_live a i m) live)))

  delete_ends : asks_for 3 g ≡ true → Ends (delete caller g.rcx m).after
  delete_ends asked =
      past_delete caller g.rcx m Ends (inl live) (λ fit.
      let i = named_by (page_of g.rcx) m in
      by_test (eqb i caller)
      (λ u. let me = eqb-true i caller u in
      inr (rw me (record { asked = asked; named = sym (rw me at fit.named); other = λ e. fit.later (me ∙ e); reached = refl })))
      (λ u. inl (rw (deleted_sheet (vcpu m caller).vmpl i m, other_row m.sheet i caller (zeros record_size) u) live)))

  withdraw_ends : (rcx : ℕ) → Ends (withdraw caller rcx m).after
  withdraw_ends rcx =
      past_withdraw caller rcx m Ends (inl live) (λ page. inl (same_sheet _ (withdrawn_sheet (vcpu m caller).vmpl rcx m)))

  -- all eight
  handle_comes : Ends (handle caller (record { registers = g; machine = record { lent = m } })).after.machine.lent
  unfolding on_lent on_rcx with_lent asks_for
  handle_comes =
      on_handle caller (record { registers = g; machine = record { lent = m } }) (λ a. Ends a.after.machine.lent)
      (record {
        bad_pending = inl live;
        unknown_protocol = λ e. inl live;
        remaps = λ e. remap_ends g.rcx;
        validates = λ e. list_ends Pvalidate g.rcx;
        creates = λ e. create_ends g.rcx g.rdx g.r8;
        deletes = λ e. delete_ends (rw (eq-eqb _ _ e.spoken, eq-eqb _ _ e.number));
        deposits = λ e. list_ends Deposit g.rcx;
        withdraws = λ e. withdraw_ends g.rcx;
        queries = λ e. inl live;
        configures = λ e. inl live;
        unknown_call = λ e. inl live;
      })

-- ---- what is left

three_left : (f g k : ℕ → ℕ) (a b c : ℕ) (t : Bool) (m : Lent) → (three_changed f g k a b c t m).table
    ≡ (let two : List ℕ = changed_byte g b (changed_byte f a m.table) in cond t (changed_byte k c two) two)
unfolding changed_byte table_byte
three_left f g k a b c t m =
    let two = (change_puts g b (change f a m)).table ∙ ap (changed_byte g b) (change_puts f a m).table in
    by_test t (λ u. rw u ((change_puts k c _).table ∙ ap (changed_byte k c) two)) (λ u. rw u two)

-- the table without the vCPU
table_without : (caller : ℕ) (m : Lent) → (deleted (vcpu m caller).vmpl caller m).table ≡ left_table (vcpu m caller) m.table
unfolding left_table holds vcpu
table_without caller m =
    let v = vcpu m caller in
    deleted_table v.vmpl caller m
    ∙ three_left (λ b. grant v.vmpl (own 0 b)) (own 0) (own 3) v.vmsa v.calling v.pool (holds (record_at m caller)) m

module _ (caller : ℕ) (g : Registers) (m : Lent) (other : caller ≡ 0 → ⊥) where
  abbrev after : Lent
  after = deleted (vcpu m caller).vmpl caller m

  startup_same : (startup after).calling ≡ (startup m).calling
  unfolding startup vcpu record_at
  startup_same = rw (deleted_sheet _ caller m, other_row m.sheet caller 0 (zeros record_size) (ne_eqb caller 0 other))

  left_memory : (set_flag after).memory
      ≡ written (startup m).calling 1 (cond (any_free (set_flag after)) 1 0 ∷ []) (clear_svme (vcpu m caller).vmsa m).memory
  unfolding set_flag write with_memory any_free
  left_memory = rw (startup_same, deleted_memory (vcpu m caller).vmpl caller m)

  left_pending : get_or (page_at (set_flag after) (vcpu m caller).calling) 0 0 ≡ pending caller m
  unfolding pending page_at clear_svme write with_memory
  left_pending = rw left_memory (written_elsewhere _ 1 _ _ _ 0 (inl (omega arith)) ∙ written_elsewhere _ 0xD0 _ _ _ 0 (inl (omega arith)))

  left : asks_for 3 g ≡ true → page_of g.rcx ≡ (vcpu m caller).vmsa
      → LeftByGone caller g m (record { registers = g; machine = record { lent = set_flag after } })
  unfolding svme_cleared clear_svme write with_memory efer page_at set_flag
  left asked named =
      record {
        asked = asked;
        named = named;
        registers = refl;
        pending_byte = left_pending;
        memory = left_memory;
        table = table_without caller m;
        sheet = deleted_sheet (vcpu m caller).vmpl caller m;
      }

-- a call that ends as gone
ended : (caller : ℕ) (g : Registers) (m : Lent) (live : is_live (get_or m.sheet caller []) ≡ true) (a : Answered Code (Posed Registers Machine))
    → Ends caller g m live a.after.machine.lent → (finish caller g a).answer ≡ Gone → LeftByGone caller g m (finish caller g a).after
unfolding finish with_lent record_at outcome_number
ended caller g m live a (inl stays) h = never Handled Gone refl (rw stays at h)
ended caller g m live a (inr d) h =
    by_test (is_live (get_or a.after.machine.lent.sheet caller []))
    (λ t. never Handled Gone refl (rw t at h))
    (λ t. rw (t, d.reached) (left caller g m d.other d.asked d.named))

-- and one that ends as handled
stays : (caller : ℕ) (g : Registers) (a : Answered Code (Posed Registers Machine)) → (finish caller g a).answer ≡ Handled
    → is_live (record_at (finish caller g a).after.machine.lent caller) ≡ true
unfolding finish with_lent record_at clear_pending set_flag write with_memory outcome_number
stays caller g a h =
    by_test (is_live (get_or a.after.machine.lent.sheet caller []))
    (λ t. rw (t, t))
    (λ t. never Gone Handled refl (rw t at h))

-- what a caller that is gone leaves; and whoever is told that the call was handled is there
pub gone_leaves : OnMachines GoneLaw
unfolding OnMachines GoneLaw unreal record_at
gone_leaves caller g m =
    let is : unreal (called caller g m).answer ≡ false → called caller g m ≡ finish caller g (handle caller (record { registers = g; machine = m }))
    = λ h. let real = real_call caller g m h in called_real caller g m real.0 real.1 in (
      λ h.
          let live = (caller_of caller m.lent (real_call caller g m (ap unreal h)).0).live in
          let same = is (ap unreal h) in
          rw same (ended caller g m.lent live _ (handle_comes caller g m.lent live) (rw same at h)),
      λ h. let same = is (ap unreal h) in rw same (stays caller g _ (rw same at h)),
    )

-- a call that left everything keeps it
pub gone_still : (caller : ℕ) (g : Registers) (m : Lent)
    → GoneLaw caller g m (record { answer = BadMachine; after = record { registers = g; machine = record { lent = m } } })
unfolding GoneLaw outcome_number
gone_still caller g m = (never BadMachine Gone refl, never BadMachine Handled refl)
