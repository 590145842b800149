-- How a table of rows is read. A row goes on from the machine that the row above it left: first the guest, at VMPL 1, stores some bytes; then
-- comes a launch or a call; then the answer, bytes of memory and bytes of the table are compared with what is expected, and the machine has to be sound.
use Rattle.std.specs.Prelude.{ℕ, zero, suc, cond, ◌/◌, ◌%◌, ◌^◌, Bool, true, false, ◌&&◌, List, [], ◌∷◌, eqb, length, take, drop}
use Rattle.rules.specs.Words.{every}
use Rattle.rules.specs.declared.Registers.{Registers}
use Rattle.rules.specs.Answers.{outcome_number, launched_number}
use Rattle.rules.specs.Machine.{Machine, page_of, offset_of, page_at, vcpu}
use Rattle.rules.specs.declared.Plan.{Plan}
use Rattle.rules.specs.Launch.{launch}
use Rattle.rules.specs.Sound.{sound}
use Rattle.rules.specs.Runs.{Step, stores, called, run_steps}

-- n bytes as they are written on paper, the first one first
unfoldable pub hex : ℕ → ℕ → List ℕ
hex zero digits = []
hex (suc n) digits = digits / 256 ^ n % 256 ∷ hex n digits

-- bytes that stand from a place on: a gPA, or a page of the table
pub record Placed : Type 0 where
  pub place : ℕ
  pub bytes : List ℕ

-- a launch; or a call by the vCPU of a record, whose pending byte is set first
pub data Event : Type 0 where
  launches : Plan → Event
  asks : ℕ → Registers → Event

pub record Row : Type 0 where
  pub stored : List Placed
  pub event : Event
  pub answer : List ℕ
  pub memory : List Placed
  pub table : List Placed

-- what came of an event: launch's answer, or outcome, RAX and RCX; and the machine after it
pub record Seen : Type 0 where
  pub answer : List ℕ
  pub machine : Machine

unfoldable pub guest_stores : List Placed → List Step
guest_stores [] = []
guest_stores (s ∷ ss) = stores 1 (page_of s.place) (offset_of s.place) s.bytes ∷ guest_stores ss

unfoldable pub happen : Event → Machine → Seen
happen (launches plan) m =
    let a = launch plan m in
    record { answer = launched_number a.answer ∷ []; machine = a.after }
happen (asks caller g) m =
    let a = called caller g (run_steps (stores 1 (vcpu m.lent caller).calling 0 (1 ∷ []) ∷ []) m) in
    let after = a.after.registers in
    record { answer = outcome_number a.answer ∷ after.rax ∷ after.rcx ∷ []; machine = a.after.machine }

unfoldable pub same : List ℕ → List ℕ → Bool
same [] [] = true
same [] (y ∷ ys) = false
same (x ∷ xs) [] = false
same (x ∷ xs) (y ∷ ys) = eqb x y && same xs ys

unfoldable pub stand : List ℕ → ℕ → List ℕ → Bool
stand bytes i expected = same (take (length expected) (drop i bytes)) expected

unfoldable pub as_expected : Row → Seen → Bool
as_expected r s =
    let m = s.machine.lent in
    same s.answer r.answer
    && every (λ e. stand (page_at m (page_of e.place)) (offset_of e.place) e.bytes) r.memory
    && every (λ e. stand m.table e.place e.bytes) r.table
    && sound m

-- the numbers of the rows that are wrong, the first of them counted as `number`
unfoldable pub wrong_rows : ℕ → List Row → Machine → List ℕ
wrong_rows number [] m = []
wrong_rows number (r ∷ rs) m =
    let s = happen r.event (run_steps (guest_stores r.stored) m) in
    let rest = wrong_rows (suc number) rs s.machine in
    cond (as_expected r s) rest (number ∷ rest)
