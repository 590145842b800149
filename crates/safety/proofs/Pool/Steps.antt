-- Statement 4: over each step the pool grows by what is taken in, less what is given back.
use mathlib.Core.Path.{◌≡◌, refl, ◌∙◌, ap}
use mathlib.Core.Bool.{true, false, cond, not, ◌&&◌, ◌||◌, and-eq-true_iff, and-false}
use Prim.Native.Nat.{ℕ, ◌+◌, ◌-◌, ◌*◌, ◌^◌, min, ◌<◌, ◌≤◌}
use native.Mathlib.Omega.{arith}
use lib.Dec.{ltb, eqb}
use lib.ListN.{length}
use borrow.Author.Tests.{ltb-false, leb-false, ne_eqb, not-true, not-false}
use Rattle.std.specs.Prelude.{Ok, Err}
use Rattle.rules.specs.Words.{page_size, entries_a_call, multiple, range}
use Rattle.rules.specs.Answers.{Code, Answered, refuse, code_number, outcome_number}
use Rattle.rules.specs.declared.Registers.{Registers}
use Rattle.rules.specs.declared.Outcome.{Outcome}
use Rattle.rules.specs.declared.Outcome.TheVariants.{Handled, NoCall, BadMachine}
use Rattle.rules.specs.declared.Progress.TheVariants.{Success}
use Rattle.rules.specs.declared.Refusal.TheVariants.{BadPending, Parameter, Address}
use Rattle.rules.specs.declared.ListCall.{ListCall}
use Rattle.rules.specs.declared.ListCall.TheVariants.{Deposit}
use Rattle.rules.specs.Machine.{Lent, Machine, with_lent, page_of, offset_of, page_at, is_live, record_at, vcpu, startup}
use Rattle.rules.specs.Steps.{store, mark, may_store, may_mark}
use Rattle.rules.specs.Sound.{sound}
use Rattle.rules.specs.Lists.{bad_list_page, in_list, list_count, list_next, store_index, bad_count, bad_next, run_within, list_call}
use Rattle.rules.specs.Calls.{withdrawn_pages, withdrawn, withdraw}
use Rattle.rules.specs.Call.{Posed, with_rax, bad_machine, no_call, protocol, call_number, on_lent, on_rcx, handle, clear_pending, set_flag, finish, call}
use Rattle.rules.specs.Runs.{Step, calls, stores, marks, called, step, pool, asks_for, handled_as, taken_by, given_by}
use Rattle.rules.specs.Runs.{head_accepted, pages_listed, taken_in, given_back}
use Rattle.laws.proofs.Ranges.{by_test, or_false}
use Rattle.safety.specs.Terms.{last_writes}
use Rattle.safety.proofs.Effects.{withdrawn_sheet}
use Rattle.safety.proofs.Branches.{Asks, on_handle, called_real}
use Rattle.safety.proofs.Checks.{Caller, caller_of, ListPage, list_page}
use Rattle.safety.proofs.Sound.Facts.{Sound, open_sound}
use Rattle.safety.proofs.Sound.Sizes.{page_there, page_whole}
use Rattle.safety.proofs.Pool.Counts.{pool_table, pool_write, pool_amend}
use Rattle.safety.proofs.Pool.Pages.{remap_pool, create_pool, delete_pool}
use Rattle.safety.proofs.Pool.Lists.{pages_none, pvalidate_pool, Deposited, run_deposits}
use Rattle.safety.proofs.Pool.Bytes.{in_list_written, offset_eight, offset_below, list_behind, in_list_last, finish_index, table_last}
use Rattle.safety.proofs.Pool.Withdraw.{withdrawn_pool, withdrawn_count}

-- ---- the end of a call

module _ (caller : ℕ) (g : Registers) (a : Answered Code (Posed Registers Machine)) where
  -- it leaves the pool
  finish_pool : pool (finish caller g a).after.machine.lent ≡ pool a.after.machine.lent
  unfolding finish with_lent clear_pending set_flag
  finish_pool =
      by_test (is_live (record_at a.after.machine.lent caller)) (λ t. rw t (pool_write _ _ _ _ ∙ pool_write _ _ _ _)) (λ t. rw t (pool_write _ _ _ _))

  -- of a caller that lives on
  finish_live : is_live (record_at a.after.machine.lent caller) ≡ true
      → finish caller g a
      ≡ record {
        answer = Handled;
        after = record {
          registers = with_rax (code_number a.answer) a.after.registers;
          machine = with_lent (last_writes caller a.after.machine.lent) a.after.machine;
        };
      }
  unfolding finish last_writes clear_pending set_flag
  finish_live live = rw live

-- ---- a call

-- what is to be proved of a step
unfoldable Counted : Step → Machine → Type 0
Counted s m = pool (step s m).lent + given_back s m ≡ pool m.lent + taken_in s m

module _ (caller : ℕ) (g : Registers) (m : Machine) where
  taken_none : handled_as 4 g (called caller g m).answer ≡ false → taken_in (calls caller g) m ≡ 0
  unfolding taken_in taken_by
  taken_none e = rw e

  given_none : handled_as 5 g (called caller g m).answer ≡ false → given_back (calls caller g) m ≡ 0
  unfolding given_back given_by
  given_none e = rw e

  other_call : (n : ℕ) → eqb (call_number g) n ≡ false → handled_as n g (called caller g m).answer ≡ false
  unfolding handled_as asks_for
  other_call n e = simp (e, and-false)

  other_protocol : (n : ℕ) → eqb (protocol g) 0 ≡ false → handled_as n g (called caller g m).answer ≡ false
  unfolding handled_as asks_for
  other_protocol n e = rw (e, and-false (eqb (outcome_number (called caller g m).answer) 0))

  not_handled : (n : ℕ) → eqb (outcome_number (called caller g m).answer) 0 ≡ false → handled_as n g (called caller g m).answer ≡ false
  unfolding handled_as
  not_handled n e = rw e

  -- the pool as it was, and nothing taken in or given back
  quiet : pool (called caller g m).after.machine.lent ≡ pool m.lent → taken_in (calls caller g) m ≡ 0 → given_back (calls caller g) m ≡ 0
      → Counted (calls caller g) m
  unfolding Counted step
  quiet e t b = omega (arith, e, t, b)

  abbrev posed : Posed Registers Machine
  posed = record { registers = g; machine = m }

  -- bad machine, and no call
  unreal_counted : (o : Outcome) → called caller g m ≡ record { answer = o; after = posed } → eqb (outcome_number o) 0 ≡ false
      → Counted (calls caller g) m
  unreal_counted o is e =
      let out : eqb (outcome_number (called caller g m).answer) 0 ≡ false = rw is e in
      quiet (ap (λ a. pool a.after.machine.lent) is) (taken_none (not_handled 4 out)) (given_none (not_handled 5 out))

  bad_counted : bad_machine caller m.lent ≡ true → Counted (calls caller g) m
  unfolding called call refuse outcome_number
  bad_counted e = unreal_counted BadMachine (rw e) refl

  none_counted : bad_machine caller m.lent ≡ false → no_call caller g m.lent ≡ true → Counted (calls caller g) m
  unfolding called call refuse outcome_number
  none_counted e f = unreal_counted NoCall (rw (e, f)) refl

  -- a refusal's code gives nothing back
  given_code : eqb (called caller g m).after.registers.rax 0 ≡ false → given_back (calls caller g) m ≡ 0
  unfolding given_back given_by
  given_code e = rw (e, and-false (handled_as 5 g (called caller g m).answer))

  -- the index as it was takes nothing in
  taken_still : list_next g.rcx (called caller g m).after.machine.lent ≡ list_next g.rcx m.lent → taken_in (calls caller g) m ≡ 0
  unfolding taken_in taken_by
  taken_still e =
      by_test (handled_as 4 g (called caller g m).answer)
      (λ t. rw (t, e) (pages_none g.rcx (list_next g.rcx m.lent) m.lent))
      (λ t. rw t)

-- a head that is accepted
record Accepted (vmpl rcx : ℕ) (m : Lent) : Type 0 where
  aligned : multiple 8 rcx ≡ true
  page : ListPage rcx m
  counts : bad_count rcx m ≡ false
  nexts : bad_next rcx m ≡ false

accepted : (vmpl rcx : ℕ) (m : Lent) → head_accepted vmpl rcx m ≡ true → Accepted vmpl rcx m
unfolding head_accepted
accepted vmpl rcx m e =
    let a = multiple 8 rcx in
    let b = not (bad_list_page vmpl rcx m) in
    let c = not (bad_count rcx m) in
    let outer = (and-eq-true_iff (a && b && c) (not (bad_next rcx m))).0 e in
    let inner = (and-eq-true_iff (a && b) c).0 outer.0 in
    let both = (and-eq-true_iff a b).0 inner.0 in
    record {
      aligned = both.0;
      page = list_page vmpl rcx m (not-true (bad_list_page vmpl rcx m) both.1);
      counts = not-true (bad_count rcx m) inner.1;
      nexts = not-true (bad_next rcx m) outer.1;
    }

-- a list call is its run, if the head is accepted
head_runs : (budget : ℕ) (c : ListCall) (caller rcx : ℕ) (m : Lent)
    → (list_call budget c caller rcx m).after ≡ cond (head_accepted (vcpu m caller).vmpl rcx m) (run_within budget c caller rcx m).after m
unfolding list_call refuse head_accepted
head_runs budget c caller rcx m =
    by_test (multiple 8 rcx)
    (λ t. rw t
    (by_test (bad_list_page (vcpu m caller).vmpl rcx m) (λ u. rw u)
    (λ u. rw u
    (by_test (bad_count rcx m) (λ v. rw v)
    (λ v. rw v (by_test (bad_next rcx m) (λ w. rw w) (λ w. rw w)))))))
    (λ t. rw t)

-- the index stays within the count, and the count within two bytes
index_fits : (budget rcx to : ℕ) (m : Lent) → bad_count rcx m ≡ false → bad_next rcx m ≡ false
    → to ≤ list_next rcx m + min budget (list_count rcx m - list_next rcx m) → to < 256 ^ 2
unfolding bad_count bad_next page_size
index_fits budget rcx to m e f h =
    let n = list_count rcx m in
    let few = ltb-false page_size (offset_of rcx + 8 + 8 * n) (or_false (eqb n 0) (ltb page_size (offset_of rcx + 8 + 8 * n)) e).1 in
    omega (arith, leb-false n (list_next rcx m) f)

-- the list's numbers are read from memory
in_list_memory : (w at rcx : ℕ) (m m' : Lent) → m'.memory ≡ m.memory → in_list w at rcx m' ≡ in_list w at rcx m
unfolding in_list page_at
in_list_memory w at rcx m m' e = rw e

pending_code : eqb (code_number (Err BadPending)) 0 ≡ false
unfolding code_number
pending_code = refl

parameter_code : eqb (code_number (Err Parameter)) 0 ≡ false
unfolding code_number
parameter_code = refl

address_code : eqb (code_number (Err Address)) 0 ≡ false
unfolding code_number
address_code = refl

success_code : code_number (Ok Success) ≡ 0
unfolding code_number
success_code = refl

-- ---- a call that is one

module _ (caller : ℕ) (g : Registers) (m : Machine) (s : Sound m.lent) (fine : bad_machine caller m.lent ≡ false)
    (made : no_call caller g m.lent ≡ false) where
  real : called caller g m ≡ finish caller g (handle caller (posed caller g m))
  real = called_real caller g m fine made

  shapes : Caller caller m.lent
  shapes = caller_of caller m.lent fine

  -- the index is the one that the call itself leaves, and where that stands still nothing is taken in
  taken_nothing : list_next g.rcx (handle caller (posed caller g m)).after.machine.lent ≡ list_next g.rcx m.lent
      → taken_in (calls caller g) m ≡ 0
  taken_nothing e =
      taken_still caller g m
      (ap (λ a. list_next g.rcx a.after.machine.lent) real ∙ finish_index caller g.rcx g (handle caller (posed caller g m)) ∙ e)

  -- so is the pool
  after_pool : pool (called caller g m).after.machine.lent ≡ pool (handle caller (posed caller g m)).after.machine.lent
  after_pool = ap (λ a. pool a.after.machine.lent) real ∙ finish_pool caller g (handle caller (posed caller g m))

  -- a call of another number leaves the pool if its handling does
  quiet_call : (a : Answered Code (Posed Registers Machine)) → handle caller (posed caller g m) ≡ a → pool a.after.machine.lent ≡ pool m.lent
      → eqb (call_number g) 4 ≡ false → eqb (call_number g) 5 ≡ false → Counted (calls caller g) m
  quiet_call a is e f h =
      quiet caller g m (after_pool ∙ ap (λ a. pool a.after.machine.lent) is ∙ e) (taken_none caller g m (other_call caller g m 4 f))
      (given_none caller g m (other_call caller g m 5 h))

  -- a call on the lent buffers that leaves the sheet
  module _ (a : Answered Code Lent) (is : handle caller (posed caller g m) ≡ on_lent a (posed caller g m)) (sheet : a.after.sheet ≡ m.lent.sheet) where
    still_live : is_live (record_at a.after caller) ≡ true
    unfolding record_at
    still_live = rw sheet shapes.live

    ended : called caller g m
        ≡ record {
          answer = Handled;
          after = record { registers = with_rax (code_number a.answer) g; machine = with_lent (last_writes caller a.after) m };
        }
    unfolding on_lent with_lent
    ended = real ∙ ap (finish caller g) is ∙ finish_live caller g (on_lent a (posed caller g m)) still_live

    ended_lent : (called caller g m).after.machine.lent ≡ last_writes caller a.after
    unfolding with_lent
    ended_lent = ap (λ x. x.after.machine.lent) ended

    ended_rax : (called caller g m).after.registers.rax ≡ code_number a.answer
    unfolding with_rax
    ended_rax = ap (λ x. x.after.registers.rax) ended

    ended_handled : eqb (outcome_number (called caller g m).answer) 0 ≡ true
    unfolding outcome_number
    ended_handled = rw ended

    ended_pool : pool (called caller g m).after.machine.lent ≡ pool a.after
    ended_pool = rw ended_lent (pool_table a.after (last_writes caller a.after) (table_last caller a.after))

    -- the list's numbers as the call itself leaves them
    list_kept : (w at : ℕ) → multiple 8 g.rcx ≡ true → ListPage g.rcx m.lent
        → in_list w at g.rcx (called caller g m).after.machine.lent ≡ in_list w at g.rcx a.after
    unfolding vcpu startup record_at
    list_kept w at mult page =
        let behind = list_behind m.lent s g.rcx mult page in
        rw ended_lent
        (in_list_last caller g.rcx w at a.after
        (λ e. omega (arith, behind caller shapes.below shapes.live (rw sheet at e)))
        (λ e. omega (arith, behind 0 (omega (arith, shapes.below)) shapes.started (rw sheet at e))))

  -- a pending byte above 1
  pending_counted : handle caller (posed caller g m) ≡ record { answer = Err BadPending; after = posed caller g m } → Counted (calls caller g) m
  unfolding on_lent with_lent
  pending_counted is =
      let a : Answered Code Lent = record { answer = Err BadPending; after = m.lent } in
      quiet caller g m (ended_pool a is refl) (taken_nothing (ap (λ a. list_next g.rcx a.after.machine.lent) is))
      (given_code caller g m (rw (ended_rax a is refl) pending_code))

  -- Deposit
  module _ (is : handle caller (posed caller g m) ≡ on_lent (list_call entries_a_call Deposit caller g.rcx m.lent) (posed caller g m))
      (protocol_0 : protocol g ≡ 0) (number_4 : call_number g ≡ 4) where
    abbrev deposit : Answered Code Lent
    deposit = list_call entries_a_call Deposit caller g.rcx m.lent

    abbrev from : ℕ
    from = list_next g.rcx m.lent

    abbrev todo : ℕ
    todo = min entries_a_call (list_count g.rcx m.lent - from)

    nothing_given : given_back (calls caller g) m ≡ 0
    nothing_given = given_none caller g m (other_call caller g m 5 (rw number_4))

    module _ (acc : head_accepted (vcpu m.lent caller).vmpl g.rcx m.lent ≡ true) where
      deposits : Deposited g.rcx todo from m.lent deposit.after
      unfolding run_within
      deposits =
          rw (head_runs entries_a_call Deposit caller g.rcx m.lent, acc) (run_deposits caller g.rcx todo from m.lent)

      index_after : list_next g.rcx (called caller g m).after.machine.lent ≡ deposits.to
      unfolding list_next store_index page_size
      index_after =
          let rcx = g.rcx in
          let h = accepted (vcpu m.lent caller).vmpl rcx m.lent acc in
          let there = page_there m.lent s.memories h.page.inside in
          let room : offset_of rcx + 2 + 2 ≤ length (page_at m.lent (page_of rcx))
          = rw (page_whole m.lent s.memories (page_of rcx) there) (omega (arith, offset_below rcx, offset_eight rcx h.aligned)) in
          list_kept deposit is deposits.sheet 2 2 h.aligned h.page
          ∙ in_list_memory 2 2 rcx (store_index deposits.to rcx m.lent) deposit.after deposits.memory
          ∙ in_list_written 2 2 (offset_of rcx + 2) deposits.to rcx m.lent refl there room
          (index_fits entries_a_call rcx deposits.to m.lent h.counts h.nexts deposits.most)

      deposit_taken : taken_in (calls caller g) m ≡ pages_listed g.rcx m.lent (range from (deposits.to - from))
      unfolding taken_in taken_by handled_as asks_for
      deposit_taken = rw (ended_handled deposit is deposits.sheet, protocol_0, number_4, index_after)

      deposit_accepted : Counted (calls caller g) m
      unfolding Counted step
      deposit_accepted = omega (arith, nothing_given, deposit_taken, ended_pool deposit is deposits.sheet, deposits.counted)

    deposit_refused : head_accepted (vcpu m.lent caller).vmpl g.rcx m.lent ≡ false → deposit.after ≡ m.lent
    deposit_refused t = head_runs entries_a_call Deposit caller g.rcx m.lent ∙ rw t

    -- a head that is refused leaves the index, whatever RCX is
    index_still : deposit.after ≡ m.lent → list_next g.rcx (handle caller (posed caller g m)).after.machine.lent ≡ list_next g.rcx m.lent
    unfolding on_lent with_lent
    index_still e = ap (λ a. list_next g.rcx a.after.machine.lent) is ∙ ap (list_next g.rcx) e

    deposit_counted : Counted (calls caller g) m
    deposit_counted =
        by_test (head_accepted (vcpu m.lent caller).vmpl g.rcx m.lent) deposit_accepted
        (λ t.
        let still = deposit_refused t in
        quiet caller g m (ended_pool deposit is (ap (λ (l : Lent). l.sheet) still) ∙ ap pool still) (taken_nothing (index_still still)) nothing_given)

  -- Withdraw
  module _ (protocol_0 : protocol g ≡ 0) (number_5 : call_number g ≡ 5) where
    nothing_taken : taken_in (calls caller g) m ≡ 0
    nothing_taken = taken_none caller g m (other_call caller g m 4 (rw number_5))

    withdraw_refused : (code : Code) → eqb (code_number code) 0 ≡ false
        → handle caller (posed caller g m) ≡ on_lent (record { answer = code; after = m.lent }) (posed caller g m) → Counted (calls caller g) m
    withdraw_refused code e is =
        let a : Answered Code Lent = record { answer = code; after = m.lent } in
        quiet caller g m (ended_pool a is refl) nothing_taken (given_code caller g m (rw (ended_rax a is refl) e))

    module _ (mult : multiple 8 g.rcx ≡ true) (page : ListPage g.rcx m.lent)
        (is : handle caller (posed caller g m)
        ≡ on_lent (record { answer = Ok Success; after = withdrawn (vcpu m.lent caller).vmpl g.rcx m.lent }) (posed caller g m)) where
      abbrev withdrawal : Answered Code Lent
      withdrawal = record { answer = Ok Success; after = withdrawn (vcpu m.lent caller).vmpl g.rcx m.lent }

      withdrawal_sheet : withdrawal.after.sheet ≡ m.lent.sheet
      withdrawal_sheet = withdrawn_sheet (vcpu m.lent caller).vmpl g.rcx m.lent

      count_after : in_list 2 0 g.rcx (called caller g m).after.machine.lent ≡ length (withdrawn_pages g.rcx m.lent)
      unfolding page_size
      count_after =
          let rcx = g.rcx in
          let there = page_there m.lent s.memories page.inside in
          let room : offset_of rcx + 2 ≤ length (page_at m.lent (page_of rcx))
          = rw (page_whole m.lent s.memories (page_of rcx) there) (omega (arith, offset_below rcx, offset_eight rcx mult)) in
          list_kept withdrawal is withdrawal_sheet 2 0 mult page ∙ withdrawn_count (vcpu m.lent caller).vmpl rcx m.lent there room

      withdrawal_given : given_back (calls caller g) m ≡ length (withdrawn_pages g.rcx m.lent)
      unfolding given_back given_by handled_as asks_for
      withdrawal_given =
          rw (ended_handled withdrawal is withdrawal_sheet, protocol_0, number_5, ended_rax withdrawal is withdrawal_sheet, success_code) count_after

      withdraw_done : Counted (calls caller g) m
      unfolding Counted step
      withdraw_done =
          omega (
            arith,
            nothing_taken,
            withdrawal_given,
            ended_pool withdrawal is withdrawal_sheet,
            withdrawn_pool (vcpu m.lent caller).vmpl g.rcx m.lent,
          )

    withdraw_counted : handle caller (posed caller g m) ≡ on_lent (withdraw caller g.rcx m.lent) (posed caller g m) → Counted (calls caller g) m
    unfolding withdraw refuse
    withdraw_counted is =
        let vmpl = (vcpu m.lent caller).vmpl in
        let odd = not (multiple 8 g.rcx) in
        by_test (odd || eqb (offset_of g.rcx) 0xFF8) (λ t. withdraw_refused (Err Parameter) parameter_code (rw t at is))
        (λ t. by_test (bad_list_page vmpl g.rcx m.lent) (λ u. withdraw_refused (Err Address) address_code (rw (t, u) at is))
        (λ u. withdraw_done (not-false _ (or_false odd (eqb (offset_of g.rcx) 0xFF8) t).0) (list_page vmpl g.rcx m.lent u) (rw (t, u) at is)))

  -- the eight calls, and what is refused before them
  handle_counted : Counted (calls caller g) m
  unfolding on_lent on_rcx with_lent
  handle_counted =
      let before = posed caller g m in
      let l = m.lent in
      let other : (k n : ℕ) → Asks k g → eqb k n ≡ false → eqb (call_number g) n ≡ false = λ k n e f. rw e.number f in
      on_handle caller before (λ a. handle caller before ≡ a → Counted (calls caller g) m)
      (record {
        bad_pending = pending_counted;
        unknown_protocol = λ e is. quiet caller g m (after_pool ∙ ap (λ a. pool a.after.machine.lent) is)
            (taken_none caller g m (other_protocol caller g m 4 e)) (given_none caller g m (other_protocol caller g m 5 e));
        remaps = λ e is. quiet_call _ is (remap_pool caller l s shapes.below shapes.live g.rcx) (other 0 4 e refl) (other 0 5 e refl);
        validates = λ e is. quiet_call _ is (pvalidate_pool caller g.rcx entries_a_call l) (other 1 4 e refl) (other 1 5 e refl);
        creates = λ e is. quiet_call _ is (create_pool caller g.rcx g.rdx g.r8 l) (other 2 4 e refl) (other 2 5 e refl);
        deletes = λ e is. quiet_call _ is (delete_pool caller g.rcx l s) (other 3 4 e refl) (other 3 5 e refl);
        deposits = λ e is. deposit_counted is e.spoken e.number;
        withdraws = λ e is. withdraw_counted e.spoken e.number is;
        queries = λ e is. quiet_call _ is refl (other 6 4 e refl) (other 6 5 e refl);
        configures = λ e is. quiet_call _ is refl (other 7 4 e refl) (other 7 5 e refl);
        unknown_call = λ e is. quiet_call _ is refl (ne_eqb (call_number g) 4 (λ h. omega arith)) (ne_eqb (call_number g) 5 (λ h. omega arith));
      })
      refl

-- statement 4, of a step
pub step_counted : (s : Step) (m : Machine) → sound m.lent ≡ true → pool (step s m).lent + given_back s m ≡ pool m.lent + taken_in s m
unfolding Counted step with_lent store mark refuse given_back taken_in
step_counted (calls caller g) m s =
    by_test (bad_machine caller m.lent) (bad_counted caller g m)
    (λ t. by_test (no_call caller g m.lent) (none_counted caller g m t) (handle_counted caller g m (open_sound _ s) t))
step_counted (stores c p offset bytes) m s =
    by_test (not (may_store c p offset (length bytes) m.lent)) (λ t. rw t) (λ t. rw (t, pool_write p offset bytes m.lent))
step_counted (marks i value) m s =
    by_test (not (may_mark i value m.lent)) (λ t. rw t) (λ t. rw (t, pool_amend _ i m.lent))
