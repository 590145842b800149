-- Statement 8, refused: registers but RAX and the sheet are as they were, and the last writes are applied to the machine on entry or, for a list that came to
-- its entries, to the machine after the run up to the entry that reads as a refusal there.
use mathlib.Core.Path.{◌≡◌, refl, sym, ◌∙◌, ap}
use mathlib.Core.Bool.{Bool, true, false, not, ◌&&◌, true≢false, and-eq-true_iff}
use Prim.Native.Nat.{ℕ, zero, suc, ◌+◌, ◌-◌, ◌<◌, ◌≤◌, min}
use native.Mathlib.Omega.{arith}
use lib.Dec.{leb, eqb, ltb}
use borrow.Author.Tests.{eq-eqb, eqb-true, eqb-false, lt-ltb, le-leb, leb-false, not-true, not-false}
use Rattle.std.specs.Prelude.{Result, Ok, Err}
use Rattle.rules.specs.declared.Registers.{Registers}
use Rattle.rules.specs.declared.Progress.TheVariants.{Success, Incomplete}
use Rattle.rules.specs.declared.Outcome.TheVariants.{Handled, Gone, BadMachine}
use Rattle.rules.specs.declared.Entry.{Entry}
use Rattle.rules.specs.declared.Refusal.{Refusal}
use Rattle.rules.specs.declared.ListCall.{ListCall}
use Rattle.rules.specs.declared.ListCall.TheVariants.{Pvalidate, Deposit}
use Rattle.rules.specs.Answers.{Code, Answered, refuse, code_number, outcome_number}
use Rattle.rules.specs.Words.{entries_a_call, multiple}
use Rattle.rules.specs.Machine.{Lent, Machine, with_lent, with_memory, write, is_live, record_at, vcpu}
use Rattle.rules.specs.Lists.{list_count, list_next, list_entry, store_index, bad_list_page, bad_count, bad_next, read_entry, carry_out_all, after_entry, run, run_within}
use Rattle.rules.specs.Lists.{list_call}
use Rattle.rules.specs.Calls.{remap, create, delete, withdraw, configure, vtom}
use Rattle.rules.specs.Call.{Posed, with_rax, with_rcx, pending, no_call, protocol, call_number, on_lent, on_rcx, dispatch, handle, clear_pending, set_flag, finish}
use Rattle.rules.specs.Runs.{asks_for, head_accepted}
use Rattle.laws.proofs.Ranges.{by_test, or_false}
use Rattle.safety.specs.Terms.{unreal, refused, last_writes, number_of_list_call, begun, AtEntry, LeftByRefusal}
use Rattle.safety.specs.Statements.{OnMachines, RefusalLaw}
use Rattle.safety.proofs.Branches.{on_test, on_refuse, passed, never, on_handle, called_real, real_call}
use Rattle.safety.proofs.Entries.{count_kept, entry_kept, read_stored, run_within_sheet}
use Rattle.safety.proofs.Checks.{past_list}

-- a code that refuses
unfoldable refuses : Code → Bool
refuses c = not (eqb (code_number c) 0) && not (eqb (code_number c) 0x80000000)

-- ---- the run over a list

-- a run that is refused stopped at an entry: the run up to there was well and left entries, and what it left is what is left now
record Stopped (call : ListCall) (caller rcx todo k : ℕ) (m : Lent) (a : Answered Code Lent) : Type 0 where
  entry : ℕ
  from : k ≤ entry
  within : entry < k + todo
  below : entry < list_count rcx m
  before : Lent
  earlier : run call caller rcx (entry - k) k m ≡ record { answer = Ok Incomplete; after = before }
  code : Refusal
  unread : read_entry call (vcpu before caller).vmpl rcx (list_entry entry rcx m) before ≡ Err code
  told : a.answer ≡ Err code
  reached : a.after ≡ before

stopped_later : (x : Result Entry Refusal) (call : ListCall) (caller rcx todo k : ℕ) (m : Lent) → read_entry call (vcpu m caller).vmpl rcx (list_entry k rcx m) m ≡ x
    → suc (k + todo) ≤ list_count rcx m
    → ((now : Lent) → suc k + todo ≤ list_count rcx now → refuses (run call caller rcx todo (suc k) now).answer ≡ true
    → Stopped call caller rcx todo (suc k) now (run call caller rcx todo (suc k) now))
    → refuses (after_entry x caller rcx k (run call caller rcx todo (suc k)) m).answer ≡ true
    → Stopped call caller rcx (suc todo) k m (after_entry x caller rcx k (run call caller rcx todo (suc k)) m)
unfolding run after_entry
stopped_later (Ok entry) call caller rcx todo k m e b later h =
    let now : Lent = carry_out_all entry.wish (vcpu m caller).vmpl entry.first entry.count m in
    let count = count_kept call _ rcx (list_entry k rcx m) entry.first entry.count entry.wish m e in
    let s = later now (omega (arith, count)) h in
    let same : s.entry - k ≡ suc (s.entry - suc k) = omega (arith, s.from) in
    record {
      entry = s.entry;
      from = omega (arith, s.from);
      within = omega (arith, s.within);
      below = omega (arith, count, s.below);
      before = s.before;
      earlier = rw (same, e) s.earlier;
      code = s.code;
      unread = rw (entry_kept call _ rcx (list_entry k rcx m) entry.first entry.count entry.wish m e s.entry) at s.unread;
      told = s.told;
      reached = s.reached;
    }
stopped_later (Err code) call caller rcx todo k m e b later h =
    let none : k - k ≡ 0 = omega arith in
    let less : ltb k (list_count rcx m) ≡ true = lt-ltb k (list_count rcx m) (omega arith) in
    record {
      entry = k;
      from = omega arith;
      within = omega arith;
      below = omega arith;
      before = store_index k rcx m;
      earlier = rw (none, less);
      code = code;
      unread = read_stored call caller rcx (list_entry k rcx m) k m ∙ e;
      told = refl;
      reached = refl;
    }

run_stopped : (call : ListCall) (caller rcx todo k : ℕ) (m : Lent) → k + todo ≤ list_count rcx m → refuses (run call caller rcx todo k m).answer ≡ true
    → Stopped call caller rcx todo k m (run call caller rcx todo k m)
unfolding run refuses code_number
run_stopped call caller rcx zero k m b h =
    by_test (ltb k (list_count rcx m)) (λ t. absurd (true≢false (sym (rw t at h)))) (λ t. absurd (true≢false (sym (rw t at h))))
run_stopped call caller rcx (suc todo) k m b h =
    stopped_later (read_entry call (vcpu m caller).vmpl rcx (list_entry k rcx m) m) call caller rcx todo k m refl (omega arith)
    (λ now c. run_stopped call caller rcx todo (suc k) now (omega arith)) h

-- ---- each call, before the last writes

-- a list call's run: as many entries as are left, and no more than a call takes
abbrev Ran : ListCall → ℕ → ℕ → Lent → Answered Code Lent → Type 0
Ran call caller rcx m = Stopped call caller rcx (min entries_a_call (list_count rcx m - list_next rcx m)) (list_next rcx m) m

within_stopped : (call : ListCall) (caller rcx : ℕ) (m : Lent) → list_next rcx m < list_count rcx m
    → refuses (run_within entries_a_call call caller rcx m).answer ≡ true
    → Ran call caller rcx m (run_within entries_a_call call caller rcx m)
unfolding run_within
within_stopped call caller rcx m less h = run_stopped call caller rcx _ (list_next rcx m) m (omega arith) h

succeeds : {A : Type 0} → refuses (Ok Success) ≡ true → A
unfolding refuses code_number
succeeds h = absurd (true≢false (sym h))

-- a refusal leaves what was there
abbrev Unmoved : {B : Type 0} → B → Answered Code B → Type 0
Unmoved now a = refuses a.answer ≡ true → a.after ≡ now

vtom_unmoved : (rcx : ℕ) → Unmoved rcx (vtom rcx)
unfolding vtom configure
vtom_unmoved rcx =
    on_refuse (Unmoved rcx) rcx _ _ _ (λ t h. refl) (λ t.
    on_test (Unmoved rcx) (eqb rcx 1) (record { answer = Ok Success; after = 0 }) (configure rcx) (λ u. succeeds) (λ u.
    on_refuse (Unmoved rcx) rcx _ _ _ (λ v h. refl) (λ v h. refl)))

module _ (m : Lent) where
  remap_unmoved : (caller rcx : ℕ) → Unmoved m (remap caller rcx m)
  unfolding remap
  remap_unmoved caller rcx = on_refuse (Unmoved m) m _ _ _ (λ t h. refl) (λ t. on_refuse (Unmoved m) m _ _ _ (λ t h. refl) (λ t. succeeds))

  create_unmoved : (caller rcx rdx r8 : ℕ) → Unmoved m (create caller rcx rdx r8 m)
  unfolding create
  create_unmoved caller rcx rdx r8 =
      on_refuse (Unmoved m) m _ _ _ (λ t h. refl) (λ t.
      on_refuse (Unmoved m) m _ _ _ (λ t h. refl) (λ t.
      on_refuse (Unmoved m) m _ _ _ (λ t h. refl) (λ t.
      on_refuse (Unmoved m) m _ _ _ (λ t h. refl) (λ t.
      on_refuse (Unmoved m) m _ _ _ (λ t h. refl) (λ t. succeeds)))))

  delete_unmoved : (caller rcx : ℕ) → Unmoved m (delete caller rcx m)
  unfolding delete
  delete_unmoved caller rcx = on_refuse (Unmoved m) m _ _ _ (λ t h. refl) (λ t. on_refuse (Unmoved m) m _ _ _ (λ t h. refl) (λ t. succeeds))

  withdraw_unmoved : (caller rcx : ℕ) → Unmoved m (withdraw caller rcx m)
  unfolding withdraw
  withdraw_unmoved caller rcx = on_refuse (Unmoved m) m _ _ _ (λ t h. refl) (λ t. on_refuse (Unmoved m) m _ _ _ (λ t h. refl) (λ t. succeeds))

  -- a head that passes each check is accepted
  accepted : (vmpl rcx : ℕ) → multiple 8 rcx ≡ true → bad_list_page vmpl rcx m ≡ false → bad_count rcx m ≡ false → bad_next rcx m ≡ false
      → head_accepted vmpl rcx m ≡ true
  unfolding head_accepted
  accepted vmpl rcx eight page count next = rw (eight, page, count, next)

  -- where it is not, a list is refused before it is touched
  list_unmoved : (budget : ℕ) (call : ListCall) (caller rcx : ℕ) → head_accepted (vcpu m caller).vmpl rcx m ≡ false
      → Unmoved m (list_call budget call caller rcx m)
  unfolding list_call
  list_unmoved budget call caller rcx bad =
      on_refuse (Unmoved m) m (not (multiple 8 rcx)) _ _ (λ t h. refl) (λ eight.
      on_refuse (Unmoved m) m (bad_list_page (vcpu m caller).vmpl rcx m) _ _ (λ t h. refl) (λ page.
      on_refuse (Unmoved m) m (bad_count rcx m) _ _ (λ t h. refl) (λ count.
      on_refuse (Unmoved m) m (bad_next rcx m) _ _ (λ t h. refl) (λ next h.
      absurd (true≢false (sym (accepted (vcpu m caller).vmpl rcx (not-false _ eight) page count next) ∙ bad))))))

  -- where it is, the list is run, and next is below count
  list_run : (budget : ℕ) (call : ListCall) (caller rcx : ℕ) → head_accepted (vcpu m caller).vmpl rcx m ≡ true
      → (list_call budget call caller rcx m ≡ run_within budget call caller rcx m) × (list_next rcx m < list_count rcx m)
  unfolding list_call head_accepted bad_next
  list_run budget call caller rcx good =
      let page = not (bad_list_page (vcpu m caller).vmpl rcx m) in
      let count = not (bad_count rcx m) in
      let three = (and-eq-true_iff (multiple 8 rcx && page && count) (not (leb (list_count rcx m) (list_next rcx m)))).0 good in
      let two = (and-eq-true_iff (multiple 8 rcx && page) count).0 three.0 in
      let one = (and-eq-true_iff (multiple 8 rcx) page).0 two.0 in (
        passed m _ _ _ (rw one.0) ∙ passed m _ _ _ (not-true _ one.1) ∙ passed m _ _ _ (not-true _ two.1) ∙ passed m _ _ _ (not-true _ three.1),
        leb-false _ _ (not-true _ three.1),
      )

-- what a refused call left before the last writes: by its branch, where the elsewhere of the statement goes for a pending byte of 1
record Moved (caller : ℕ) (g : Registers) (m : Lent) (a : Answered Code (Posed Registers Machine)) : Type 0 where
  registers : a.after.registers ≡ g
  sheet : a.after.machine.lent.sheet ≡ m.sheet
  elsewhere : pending caller m ≡ 1 → ((call : ListCall) → begun call caller g m ≡ false) → a.after.machine.lent ≡ m

-- and whole
record Left (caller : ℕ) (g : Registers) (m : Lent) (a : Answered Code (Posed Registers Machine)) : Type 0 where
  registers : a.after.registers ≡ g
  sheet : a.after.machine.lent.sheet ≡ m.sheet
  at_entry : (call : ListCall) → begun call caller g m ≡ true
      → Ran call caller g.rcx m (record { answer = a.answer; after = a.after.machine.lent })
  elsewhere : ((call : ListCall) → begun call caller g m ≡ false) → a.after.machine.lent ≡ m

module _ (caller : ℕ) (g : Registers) (m : Machine) where
  abbrev posed : Posed Registers Machine
  posed = record { registers = g; machine = m }

  abbrev Moves : Answered Code (Posed Registers Machine) → Type 0
  Moves a = refuses a.answer ≡ true → Moved caller g m.lent a

  same : (code : Code) → Moves (record { answer = code; after = posed })
  same code h = record { registers = refl; sheet = refl; elsewhere = λ one none. refl }

  on_lent_moves : (a : Answered Code Lent) → Unmoved m.lent a → Moves (on_lent a posed)
  unfolding on_lent with_lent
  on_lent_moves a unmoved h =
      record { registers = refl; sheet = ap (λ now. now.sheet) (unmoved h); elsewhere = λ one none. unmoved h }

  on_list_moves : (call : ListCall) → asks_for (number_of_list_call call) g ≡ true
      → Moves (on_lent (list_call entries_a_call call caller g.rcx m.lent) posed)
  unfolding on_lent with_lent begun
  on_list_moves call asked h =
      record {
        registers = refl;
        sheet = past_list entries_a_call call caller g.rcx m.lent (λ now. now.sheet ≡ m.lent.sheet) refl
            (λ page. run_within_sheet entries_a_call call caller g.rcx m.lent);
        elsewhere = λ one none. list_unmoved m.lent entries_a_call call caller g.rcx (simp (asked, eq-eqb _ _ one) at (none call)) h;
      }

  on_rcx_moves : (a : Answered Code ℕ) → Unmoved g.rcx a → Moves (on_rcx a posed)
  unfolding on_rcx with_rcx
  on_rcx_moves a unmoved h = record { registers = rw (unmoved h); sheet = refl; elsewhere = λ one none. refl }

  handle_moves : Moves (handle caller posed)
  unfolding number_of_list_call asks_for
  handle_moves =
      on_handle caller posed Moves
      (record {
        bad_pending = same _;
        unknown_protocol = λ e. same _;
        remaps = λ e. on_lent_moves _ (remap_unmoved m.lent caller g.rcx);
        validates = λ e. on_list_moves Pvalidate (rw (eq-eqb _ _ e.spoken, eq-eqb _ _ e.number));
        creates = λ e. on_lent_moves _ (create_unmoved m.lent caller g.rcx g.rdx g.r8);
        deletes = λ e. on_lent_moves _ (delete_unmoved m.lent caller g.rcx);
        deposits = λ e. on_list_moves Deposit (rw (eq-eqb _ _ e.spoken, eq-eqb _ _ e.number));
        withdraws = λ e. on_lent_moves _ (withdraw_unmoved m.lent caller g.rcx);
        queries = λ e. on_rcx_moves _ succeeds;
        configures = λ e. on_rcx_moves _ (vtom_unmoved g.rcx);
        unknown_call = λ e. same _;
      })

  -- a pending byte above 1 is refused at once
  other_pending : leb 2 (pending caller m.lent) ≡ true → (handle caller posed).after ≡ posed
  unfolding handle refuse
  other_pending e = rw e

  -- a list that came to its entries
  record Begins (call : ListCall) : Type 0 where
    spoken : protocol g ≡ 0
    number : call_number g ≡ number_of_list_call call
    waiting : pending caller m.lent ≡ 1
    head : head_accepted (vcpu m.lent caller).vmpl g.rcx m.lent ≡ true

  begins : (call : ListCall) → begun call caller g m.lent ≡ true → Begins call
  unfolding begun asks_for
  begins call b =
      let outer = (and-eq-true_iff (eqb (protocol g) 0 && eqb (call_number g) (number_of_list_call call) && eqb (pending caller m.lent) 1) _).0 b in
      let inner = (and-eq-true_iff (eqb (protocol g) 0 && eqb (call_number g) (number_of_list_call call)) _).0 outer.0 in
      let asks = (and-eq-true_iff (eqb (protocol g) 0) _).0 inner.0 in
      record { spoken = eqb-true _ _ asks.0; number = eqb-true _ _ asks.1; waiting = eqb-true _ _ inner.1; head = outer.1 }

  -- is handled as that list call
  dispatched : (call : ListCall) → Begins call → handle caller posed ≡ on_lent (list_call entries_a_call call caller g.rcx m.lent) posed
  unfolding number_of_list_call handle dispatch refuse
  dispatched Pvalidate b = rw (b.waiting, b.spoken, b.number)
  dispatched Deposit b = rw (b.waiting, b.spoken, b.number)

  -- and was refused at one of them
  handle_ran : (call : ListCall) → Begins call → (a : Answered Code (Posed Registers Machine)) → handle caller posed ≡ a → refuses a.answer ≡ true
      → Ran call caller g.rcx m.lent (record { answer = a.answer; after = a.after.machine.lent })
  unfolding on_lent with_lent
  handle_ran call b a is h =
      let runs = list_run m.lent entries_a_call call caller g.rcx b.head in
      let same = sym is ∙ dispatched call b ∙ ap (λ x. on_lent x posed) runs.0 in
      rw same (within_stopped call caller g.rcx m.lent runs.1 (rw same at h))

  handle_leaves : no_call caller g m.lent ≡ false → refuses (handle caller posed).answer ≡ true → Left caller g m.lent (handle caller posed)
  unfolding no_call
  handle_leaves real h =
      let moved = handle_moves h in
      let byte = pending caller m.lent in
      let some = eqb-false byte 0 (or_false (eqb byte 0) _ real).0 in
      record {
        registers = moved.registers;
        sheet = moved.sheet;
        at_entry = λ call b. handle_ran call (begins call b) _ refl h;
        elsewhere = λ none. by_test (eqb byte 1)
            (λ t. moved.elsewhere (eqb-true byte 1 t) none)
            (λ t. ap (λ (s : Posed Registers Machine). s.machine.lent) (other_pending (le-leb 2 byte (omega (arith, some, eqb-false byte 1 t)))));
      }

-- ---- the last writes

last_writes_sheet : (caller : ℕ) (m : Lent) → (last_writes caller m).sheet ≡ m.sheet
unfolding last_writes write with_memory
last_writes_sheet caller m = refl

-- at the entry where the list was refused
left_at_entry : (call : ListCall) (caller : ℕ) (g : Registers) (m : Lent) (a : Answered Code Lent) (r : Registers) → r.rax ≡ code_number a.answer
    → Ran call caller g.rcx m a
    → AtEntry call caller g m (record { registers = r; machine = record { lent = last_writes caller a.after } })
unfolding entries_a_call run_within
left_at_entry call caller g m a r rax ran =
    let next = list_next g.rcx m in
    let count = list_count g.rcx m in
    let same : min (ran.entry - next) (count - next) ≡ ran.entry - next = omega (arith, ran.below, ran.from) in
    let earlier : run_within (ran.entry - next) call caller g.rcx m ≡ record { answer = Ok Incomplete; after = ran.before } = rw same ran.earlier in
    record {
      entry = ran.entry;
      from = ran.from;
      within = omega (arith, ran.within);
      below = ran.below;
      before = ran.before;
      earlier = earlier;
      code = ran.code;
      unread = ran.unread;
      told = rax ∙ ap code_number ran.told;
      reached = ap (last_writes caller) ran.reached;
    }

-- a call that ends as handled, and refused
refusal_ended : (caller : ℕ) (g : Registers) (m : Lent) (a : Answered Code (Posed Registers Machine))
    → (refuses a.answer ≡ true → Left caller g m a) → (finish caller g a).answer ≡ Handled
    → refused (finish caller g a).after.registers ≡ true → LeftByRefusal caller g m (finish caller g a).after
unfolding finish with_lent with_rax outcome_number refused refuses last_writes clear_pending set_flag
refusal_ended caller g m a leaves handled h =
    by_test (is_live (record_at a.after.machine.lent caller))
    (λ t. let l = leaves (rw t at h) in
    rw t (record {
      registers = rw l.registers;
      sheet = last_writes_sheet caller a.after.machine.lent ∙ l.sheet;
      at_entry = λ call b. left_at_entry call caller g m _ (with_rax (code_number a.answer) a.after.registers) refl (l.at_entry call b);
      elsewhere = λ none. ap (last_writes caller) (l.elsewhere none);
    }))
    (λ t. never Gone Handled refl (rw t at handled))

-- what a refused call leaves
pub refusal_leaves : OnMachines RefusalLaw
unfolding OnMachines RefusalLaw unreal
refusal_leaves caller g m handled h =
    let real = real_call caller g m (ap unreal handled) in
    let is = called_real caller g m real.0 real.1 in
    rw is (refusal_ended caller g m.lent _ (handle_leaves caller g m real.1) (rw is at handled) (rw is at h))

-- a call that left everything is no refusal
pub refusal_still : (caller : ℕ) (g : Registers) (m : Lent)
    → RefusalLaw caller g m (record { answer = BadMachine; after = record { registers = g; machine = record { lent = m } } })
unfolding RefusalLaw outcome_number
refusal_still caller g m = never BadMachine Handled refl
