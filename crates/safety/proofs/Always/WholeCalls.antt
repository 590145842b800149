-- Statement 9 of whole calls. An entry that the index has passed is one of the run: whatever else a call does leaves the index as it was, and all but two bytes
-- of a page.
use mathlib.Core.Path.{◌≡◌, refl, sym, ◌∙◌, ap}
use mathlib.Core.Logic.{◌⊎◌, inl, inr}
use mathlib.Core.Bool.{true, false, cond, true≢false, and-eq-true_iff}
use mathlib.Core.List.{List, [], ◌∷◌}
use Prim.Native.Nat.{ℕ, suc, ◌+◌, ◌-◌, ◌*◌, min, ◌<◌, ◌≤◌}
use native.Mathlib.Omega.{arith}
use lib.Dec.{eqb, ltb}
use lib.ListN.{length, get_or}
use borrow.Author.Tests.{eqb-true, eqb-false, ne_eqb, ltb-true, ltb-false, leb-false}
use Rattle.rules.specs.declared.Registers.{Registers}
use Rattle.rules.specs.declared.Outcome.{Outcome}
use Rattle.rules.specs.declared.Outcome.TheVariants.{Handled, NoCall, Gone, BadMachine}
use Rattle.rules.specs.declared.ListCall.{ListCall}
use Rattle.rules.specs.declared.ListCall.TheVariants.{Pvalidate, Deposit}
use Rattle.rules.specs.Answers.{Code, Answered, outcome_number}
use Rattle.rules.specs.Words.{page_size, entries_a_call, bit}
use Rattle.rules.specs.Machine.{Lent, Machine, with_lent, N, page_of, offset_of, page_at, with_memory, write, valid, table_byte, is_live, record_at, vcpu, startup}
use Rattle.rules.specs.Sound.{pages_sized}
use Rattle.rules.specs.Lists.{list_count, list_next, list_entry, bad_count, bad_next, run_within, list_call}
use Rattle.rules.specs.Calls.{any_free}
use Rattle.rules.specs.Call.{Posed, protocol, call_number, on_lent, on_rcx, handle, clear_pending, set_flag, finish}
use Rattle.rules.specs.Runs.{called, asks_for, handled_as}
use Rattle.laws.proofs.Ranges.{by_test, or_false}
use Rattle.laws.proofs.Numbers.{getD_sets_elsewhere}
use Rattle.safety.specs.Terms.{unreal, number_of_list_call, InvalidBy, on_entry, by_entry, InvalidatedBefore}
use Rattle.safety.specs.Statements.{OnMachines, ValidationLaw, RevalidationLaw, PassedLaw}
use Rattle.safety.proofs.Branches.{Asks, on_handle, called_real, real_call}
use Rattle.safety.proofs.Checks.{past_head, past_list}
use Rattle.safety.proofs.Effects.{page_written, page_not_written, page_out}
use Rattle.safety.proofs.Sound.Sizes.{page_there, page_whole}
use Rattle.safety.proofs.Pool.Bytes.{finish_index}
use Rattle.safety.proofs.Always.ValidationRuns.{Excused, come, run_excused}
use Rattle.safety.proofs.Always.PassedRuns.{Told, at_next, still_told, run_told}

-- a call that is handled is one
handled_real : (n : ℕ) (g : Registers) (o : Outcome) → handled_as n g o ≡ true → unreal o ≡ false
unfolding handled_as unreal outcome_number
handled_real n g Handled h = refl
handled_real n g NoCall h = absurd (true≢false (sym h))
handled_real n g Gone h = refl
handled_real n g BadMachine h = absurd (true≢false (sym h))

-- and asks for that call
handled_asks : (n : ℕ) (g : Registers) (o : Outcome) → handled_as n g o ≡ true → Asks n g
unfolding handled_as asks_for
handled_asks n g o h =
    let asks = ((and-eq-true_iff (eqb (outcome_number o) 0) (asks_for n g)).0 h).1 in
    let both = (and-eq-true_iff (eqb (protocol g) 0) (eqb (call_number g) n)).0 asks in
    record { spoken = eqb-true _ 0 both.0; number = eqb-true _ n both.1 }

-- and leave every table byte
finish_byte : (caller p : ℕ) (g : Registers) (a : Answered Code (Posed Registers Machine))
    → table_byte (finish caller g a).after.machine.lent p ≡ table_byte a.after.machine.lent p
unfolding finish with_lent clear_pending set_flag write with_memory table_byte
finish_byte caller p g a = by_test (is_live (record_at a.after.machine.lent caller)) (λ t. rw t) (λ t. rw t)

write_behind : (q o p k : ℕ) (bytes : List ℕ) (m : Lent) → o + length bytes ≤ k → get_or (page_at (write q o bytes m) p) k 0 ≡ get_or (page_at m p) k 0
write_behind q o p k bytes m up =
    by_test (eqb p q)
    (λ t. by_test (ltb q (length m.memory))
    (λ u. rw (eqb-true p q t, page_written q o bytes m (ltb-true q (length m.memory) u)) (getD_sets_elsewhere (page_at m q) o bytes k 0 (inr up)))
    (λ u. ap (λ page. get_or page k 0) (page_out q o bytes m p (ltb-false q (length m.memory) u))))
    (λ t. ap (λ page. get_or page k 0) (page_not_written q o bytes m p (eqb-false p q t)))

-- and the bytes of every page from the third on
finish_behind : (caller p k : ℕ) (g : Registers) (a : Answered Code (Posed Registers Machine)) → 2 ≤ k
    → get_or (page_at (finish caller g a).after.machine.lent p) k 0 ≡ get_or (page_at a.after.machine.lent p) k 0
unfolding finish with_lent clear_pending set_flag
finish_behind caller p k g a up =
    let m = a.after.machine.lent in
    let cleared = clear_pending caller m in
    by_test (is_live (record_at m caller))
    (λ t. rw t (write_behind (startup cleared).calling 1 p k (cond (any_free cleared) 1 0 ∷ []) cleared (omega arith)
    ∙ write_behind (vcpu m caller).calling 0 p k (0 ∷ []) m (omega arith)))
    (λ t. rw t (write_behind (startup m).calling 1 p k (cond (any_free m) 1 0 ∷ []) m (omega arith)))

-- a call that asks for one number asks for no other
no_other : {A : Type 0} (n k : ℕ) (g : Registers) → eqb n k ≡ false → Asks k g → Asks n g → A
no_other n k g differs asks e = absurd (eqb-false n k differs (sym e.number ∙ asks.number))

-- ---- no second validation

-- where the index is as it was no entry is passed
still_excused : (caller rcx p i : ℕ) (m : Lent) → Excused caller rcx p m i m
unfolding Excused
still_excused caller rcx p i m from passed = absurd (omega arith)

run_within_excused : (budget caller rcx p i : ℕ) (m : Lent) → Excused caller rcx p m i (run_within budget Pvalidate caller rcx m).after
unfolding run_within Excused
run_within_excused budget caller rcx p i m from = run_excused caller rcx p m _ (list_next rcx m) i m (omega arith) (come caller rcx p m) from from

handle_excused : (caller : ℕ) (g : Registers) (m : Machine) (p i : ℕ) → Asks 1 g
    → Excused caller g.rcx p m.lent i (handle caller (record { registers = g; machine = m })).after.machine.lent
unfolding on_lent on_rcx with_lent
handle_excused caller g m p i asks =
    let rcx = g.rcx in
    let still = still_excused caller rcx p i m.lent in
    on_handle caller (record { registers = g; machine = m }) (λ a. Excused caller rcx p m.lent i a.after.machine.lent)
    (record {
      bad_pending = still;
      unknown_protocol = λ e. still;
      remaps = no_other 0 1 g refl asks;
      validates = λ e. past_list entries_a_call Pvalidate caller rcx m.lent (Excused caller rcx p m.lent i) still
          (λ page. run_within_excused entries_a_call caller rcx p i m.lent);
      creates = no_other 2 1 g refl asks;
      deletes = no_other 3 1 g refl asks;
      deposits = no_other 4 1 g refl asks;
      withdraws = no_other 5 1 g refl asks;
      queries = λ e. still;
      configures = λ e. still;
      unknown_call = λ e. still;
    })

-- statement 9, of whole calls
pub validation_of_calls : OnMachines ValidationLaw
unfolding OnMachines ValidationLaw Excused
validation_of_calls caller g m handled k p from passed =
    let real = real_call caller g m (handled_real 1 g (called caller g m).answer handled) in
    let is = called_real caller g m real.0 real.1 in
    let asks = handled_asks 1 g (called caller g m).answer handled in
    handle_excused caller g m p k asks from (rw (is, finish_index caller g.rcx g _) at passed)

-- and of one that was no call, with everything as it was
pub validation_still : (caller : ℕ) (g : Registers) (m : Lent)
    → ValidationLaw caller g m (record { answer = BadMachine; after = record { registers = g; machine = record { lent = m } } })
unfolding ValidationLaw
validation_still caller g m handled k p from passed = absurd (omega arith)

-- a page that was valid on entry was made invalid by an entry
made_invalid : (k p rcx : ℕ) (m : Lent) → valid (table_byte m p) ≡ true → InvalidBy k p rcx m → InvalidatedBefore k p rcx m
made_invalid k p rcx m was (on_entry not none) = absurd (true≢false (sym was ∙ not))
made_invalid k p rcx m was (by_entry j from up wish_0 covering none) =
    record { entry = j; from = from; earlier = up; wish_0 = wish_0; covering = covering }

revalidation : (k p rcx : ℕ) (m : Lent) → valid (table_byte m p) ≡ true → (bit 3 (list_entry k rcx m) ≡ true) ⊎ InvalidBy k p rcx m
    → (bit 3 (list_entry k rcx m) ≡ true) ⊎ InvalidatedBefore k p rcx m
revalidation k p rcx m was (inl three) = inl three
revalidation k p rcx m was (inr why) = inr (made_invalid k p rcx m was why)

-- so what holds of every page holds of those
pub revalidation_of_calls : OnMachines RevalidationLaw
unfolding OnMachines ValidationLaw RevalidationLaw
revalidation_of_calls caller g m handled k p from passed two covering was =
    revalidation k p g.rcx m.lent was (validation_of_calls caller g m handled k p from passed two covering)

-- and with everything as it was
pub revalidation_still : (caller : ℕ) (g : Registers) (m : Lent)
    → RevalidationLaw caller g m (record { answer = BadMachine; after = record { registers = g; machine = record { lent = m } } })
unfolding RevalidationLaw
revalidation_still caller g m handled k p from passed = absurd (omega arith)

-- ---- what the index tells

module _ (call : ListCall) (caller rcx p : ℕ) (m : Lent) (whole : pages_sized m ≡ true) (apart : eqb p (page_of rcx) ≡ false) where
  -- the list that is accepted has whole pages, and few entries
  run_within_told : (budget : ℕ) → page_of rcx < N m → bad_count rcx m ≡ false → bad_next rcx m ≡ false
      → Told rcx p m (list_next rcx m + budget) (run_within budget call caller rcx m).after
  unfolding run_within bad_count bad_next page_size
  run_within_told budget inside counts nexts =
      let next = list_next rcx m in
      let count = list_count rcx m in
      let there = page_there m whole inside in
      let some = or_false (eqb count 0) _ counts in
      let fits : offset_of rcx + 8 + 8 * count ≤ page_size = ltb-false _ _ some.1 in
      let room : offset_of rcx + 4 ≤ length (page_at m (page_of rcx)) = rw (page_whole m whole (page_of rcx) there) (omega arith) in
      let low = leb-false count next nexts in
      let told = run_told call caller rcx p m there room apart (min budget (count - next)) next (next + min budget (count - next)) m (omega arith)
      (at_next rcx p m) (omega arith) (omega arith) in
      record { most = omega (arith, told.most); untouched = told.untouched }

  list_told : Told rcx p m (list_next rcx m + entries_a_call) (list_call entries_a_call call caller rcx m).after
  list_told =
      past_head entries_a_call call caller rcx m (Told rcx p m (list_next rcx m + entries_a_call)) (still_told rcx p m entries_a_call)
      (λ page. run_within_told entries_a_call page.inside)

-- a call that asks for a list call asks for none of the others
no_list : {A : Type 0} (call : ListCall) (n : ℕ) (g : Registers) → eqb n 1 ≡ false → eqb n 4 ≡ false → Asks (number_of_list_call call) g → Asks n g → A
unfolding number_of_list_call
no_list Pvalidate n g one four = no_other n 1 g one
no_list Deposit n g one four = no_other n 4 g four

handle_told : (call : ListCall) (caller p : ℕ) (g : Registers) (m : Machine) → Asks (number_of_list_call call) g → pages_sized m.lent ≡ true
    → eqb p (page_of g.rcx) ≡ false
    → Told g.rcx p m.lent (list_next g.rcx m.lent + entries_a_call) (handle caller (record { registers = g; machine = m })).after.machine.lent
unfolding on_lent on_rcx with_lent
handle_told call caller p g m asks whole apart =
    let rcx = g.rcx in
    let still = still_told rcx p m.lent entries_a_call in
    on_handle caller (record { registers = g; machine = m }) (λ a. Told rcx p m.lent (list_next rcx m.lent + entries_a_call) a.after.machine.lent)
    (record {
      bad_pending = still;
      unknown_protocol = λ e. still;
      remaps = no_list call 0 g refl refl asks;
      validates = λ e. list_told Pvalidate caller rcx p m.lent whole apart;
      creates = no_list call 2 g refl refl asks;
      deletes = no_list call 3 g refl refl asks;
      deposits = λ e. list_told Deposit caller rcx p m.lent whole apart;
      withdraws = no_list call 5 g refl refl asks;
      queries = λ e. still;
      configures = λ e. still;
      unknown_call = λ e. still;
    })

-- statement 9, what a list call passes. How far the index goes is told with any page, so with the one behind the list's
pub passed_of_calls : OnMachines PassedLaw
unfolding OnMachines PassedLaw entries_a_call
passed_of_calls caller g m call whole handled =
    let rcx = g.rcx in
    let n = number_of_list_call call in
    let a = handle caller (record { registers = g; machine = m }) in
    let real = real_call caller g m (handled_real n g (called caller g m).answer handled) in
    let is = called_real caller g m real.0 real.1 in
    let asks = handled_asks n g (called caller g m).answer handled in
    let index : list_next rcx (called caller g m).after.machine.lent ≡ list_next rcx a.after.machine.lent = rw is (finish_index caller rcx g a) in
    let behind = suc (page_of rcx) in (
      omega (arith, index, (handle_told call caller behind g m asks whole (ne_eqb behind (page_of rcx) (λ e. omega arith))).most),
      λ p apart none.
          let same = (handle_told call caller p g m asks whole (ne_eqb p (page_of rcx) apart)).untouched (rw index at none) in (
            rw is (finish_byte caller p g a ∙ same.byte),
            λ k up. rw is (finish_behind caller p k g a up ∙ ap (λ page. get_or page k 0) same.page),
          ),
    )

-- and of one that was no call
pub passed_still : (caller : ℕ) (g : Registers) (m : Lent)
    → PassedLaw caller g m (record { answer = BadMachine; after = record { registers = g; machine = record { lent = m } } })
unfolding PassedLaw handled_as outcome_number
passed_still caller g m call whole handled = absurd (true≢false (sym handled))
