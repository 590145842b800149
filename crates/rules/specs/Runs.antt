-- Steps and runs on a machine of right size, and the pages that a step takes in and gives back.
use Rattle.std.specs.Prelude.{ℕ, ◌+◌, ◌-◌, Bool, cond, not, ◌&&◌, ◌||◌, List, [], ◌∷◌, eqb}
use Rattle.rules.specs.Words.{multiple, bits, range, count}
use Rattle.rules.specs.Answers.{Registers, Outcome, outcome_number, Answered}
use Rattle.rules.specs.Machine.{Lent, Machine, with_lent, owner, pool_free, pool_in_use}
use Rattle.rules.specs.Steps.{store, mark}
use Rattle.rules.specs.Lists.{bad_list_page, in_list, list_next, list_entry, bad_count, bad_next}
use Rattle.rules.specs.Call.{Posed, protocol, call_number, call}

-- a call by this record with these registers; a store of VMPL, page, offset and bytes; a mark of
-- this record, running or not
pub data Step : Type 0 where
  calls : ℕ → Registers → Step
  stores : ℕ → ℕ → ℕ → List ℕ → Step
  marks : ℕ → ℕ → Step

unfoldable pub called : ℕ → Registers → Machine → Answered Outcome (Posed Registers Machine)
called caller g m = call caller (record { registers = g; machine = m })

unfoldable pub step : Step → Machine → Machine
step (calls caller g) m = (called caller g m).after.machine
step (stores c p offset bytes) m = with_lent (store c p offset bytes m.lent).after m
step (marks i value) m = with_lent (mark i value m.lent).after m

unfoldable pub run_steps : List Step → Machine → Machine
run_steps [] m = m
run_steps (s ∷ ss) m = run_steps ss (step s m)

-- the pages of the pool
unfoldable pub in_pool : ℕ → Bool
in_pool b = eqb (owner b) pool_free || eqb (owner b) pool_in_use

unfoldable pub pool : Lent → ℕ
pool m = count in_pool m.table

-- RAX asks for call n of the one protocol
unfoldable pub asks_for : ℕ → Registers → Bool
asks_for n g = eqb (protocol g) 0 && eqb (call_number g) n

-- outcome 0, and RAX asked for call n
unfoldable pub handled_as : ℕ → Registers → Outcome → Bool
handled_as n g outcome = eqb (outcome_number outcome) 0 && asks_for n g

-- the head passes every check of `list_call`
unfoldable pub head_accepted : ℕ → ℕ → Lent → Bool
head_accepted vmpl rcx m = multiple 8 rcx && not (bad_list_page vmpl rcx m) && not (bad_count rcx m) && not (bad_next rcx m)

-- the pages of some entries of the list at RCX: one page for size 0, else 512; spelt out, since it is what Deposit is held to
unfoldable pub pages_listed : ℕ → Lent → List ℕ → ℕ
pages_listed rcx m [] = 0
pages_listed rcx m (k ∷ ks) = cond (eqb (bits 1 0 (list_entry k rcx m)) 0) 1 512 + pages_listed rcx m ks

-- ""Taken in" counts the pages of Deposit entries that the index passed": from the index before to the index after, read on entry. Where the head was
-- refused the index stands still, so nothing is counted: the last writes are in bytes 0 and 1 of a page, the index in bytes 2 and 3 behind RCX
unfoldable pub taken_by : Registers → Lent → Answered Outcome (Posed Registers Machine) → ℕ
taken_by g m a =
    let from : ℕ = list_next g.rcx m in
    let to : ℕ = list_next g.rcx a.after.machine.lent in
    cond (handled_as 4 g a.answer) (pages_listed g.rcx m (range from (to - from))) 0

-- ""given back" the counts that Withdraw wrote": the two bytes at RCX on exit, for code 0; in a sound machine the last writes do not touch them
unfoldable pub given_by : Registers → Answered Outcome (Posed Registers Machine) → ℕ
given_by g a = cond (handled_as 5 g a.answer && eqb a.after.registers.rax 0) (in_list 2 0 g.rcx a.after.machine.lent) 0

-- either, of any step; and summed over a run
unfoldable pub taken_in : Step → Machine → ℕ
taken_in (calls caller g) m = taken_by g m.lent (called caller g m)
taken_in (stores c p offset bytes) m = 0
taken_in (marks i value) m = 0

unfoldable pub given_back : Step → Machine → ℕ
given_back (calls caller g) m = given_by g (called caller g m)
given_back (stores c p offset bytes) m = 0
given_back (marks i value) m = 0

unfoldable pub over_run : (Step → Machine → ℕ) → List Step → Machine → ℕ
over_run counted [] m = 0
over_run counted (s ∷ ss) m = counted s m + over_run counted ss (step s m)
