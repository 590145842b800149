-- The types that cross crates; the paper's number for each case of each answer, and how an answer is given. Those of the discovery fields are in Discovery.
use Rattle.std.specs.Prelude.{ℕ, Bool, cond, Result, Ok, Err}
pub use Rattle.rules.specs.declared.Registers.{Registers}
pub use Rattle.rules.specs.declared.Vcpu.{Vcpu}
pub use Rattle.rules.specs.declared.Plan.{Plan}
pub use Rattle.rules.specs.declared.Outcome.{Outcome}
pub use Rattle.rules.specs.declared.Outcome.TheVariants.{Handled, NoCall, Gone, BadMachine}
pub use Rattle.rules.specs.declared.Progress.{Progress}
pub use Rattle.rules.specs.declared.Progress.TheVariants.{Success, Incomplete}
pub use Rattle.rules.specs.declared.Refusal.{Refusal}
pub use Rattle.rules.specs.declared.Refusal.TheVariants.{OneMorePage, UnknownProtocol, UnknownCall, Address, BadPending, Parameter, Request, InUse, SizeMismatch, NoChange}
pub use Rattle.rules.specs.declared.LaunchError.{LaunchError}
pub use Rattle.rules.specs.declared.LaunchError.TheVariants.{WrongSize, OutOfRange, AreasMeet, UnfitVmsa}
pub use Rattle.rules.specs.declared.Refused.{Refused}
pub use Rattle.rules.specs.declared.Entry.{Entry}
pub use Rattle.rules.specs.declared.ListCall.{ListCall}
pub use Rattle.rules.specs.declared.ListCall.TheVariants.{Pvalidate, Deposit}
pub use Rattle.rules.specs.declared.Wish.{Wish}
pub use Rattle.rules.specs.declared.Wish.TheVariants.{Invalid, Valid, Pool}

-- an answer is what there is to tell if all went well, or why it is refused: the code of a call that was handled, how far it came; launch, a store and a mark have
-- nothing to tell; an entry that reads cleanly, its range and wish
abbrev pub Code : Type 0
Code = Result Progress Refusal

abbrev pub Launched : Type 0
Launched = Result (Unit {0}) LaunchError

abbrev pub Verdict : Type 0
Verdict = Result (Unit {0}) Refused

abbrev pub refusal : Refused
refusal = record {}

abbrev pub reads : ℕ → ℕ → Wish → Result Entry Refusal
reads first count wish = Ok (record { first = first; count = count; wish = wish })

-- "0 handled", "1 no call", "2 gone", "3 bad machine"
unfoldable pub outcome_number : Outcome → ℕ
outcome_number Handled = 0
outcome_number NoCall = 1
outcome_number Gone = 2
outcome_number BadMachine = 3

-- the table of codes
unfoldable pub code_number : Code → ℕ
code_number (Ok Success) = 0
code_number (Err OneMorePage) = 0x40000001
code_number (Ok Incomplete) = 0x80000000
code_number (Err UnknownProtocol) = 0x80000001
code_number (Err UnknownCall) = 0x80000002
code_number (Err Address) = 0x80000003
code_number (Err BadPending) = 0x80000004
code_number (Err Parameter) = 0x80000005
code_number (Err Request) = 0x80000006
code_number (Err InUse) = 0x80001003
code_number (Err SizeMismatch) = 0x80001006
code_number (Err NoChange) = 0x80001010

-- launch's "Answers: 0 made; 1 a size wrong; 2 a page or V out of range, or the monitor empty; 3 two of the three areas meet; 4 VMPL .. or EFER .."
unfoldable pub launched_number : Launched → ℕ
launched_number (Ok made) = 0
launched_number (Err WrongSize) = 1
launched_number (Err OutOfRange) = 2
launched_number (Err AreasMeet) = 3
launched_number (Err UnfitVmsa) = 4

-- "Each answers 0 done, 1 refused"
unfoldable pub verdict_number : Verdict → ℕ
verdict_number (Ok done) = 0
verdict_number (Err why) = 1

-- an entry's code: success where it reads cleanly
unfoldable pub entry_code : Result Entry Refusal → Code
entry_code (Ok entry) = Ok Success
entry_code (Err why) = Err why

-- an answer of kind A, with what is there after it
pub record Answered (A B : Type 0) : Type 0 where
  pub answer : A
  pub after : B

-- "checks in order": if the test holds, this answer and everything as it is; else the rest
unfoldable pub refuse : {A B : Type 0} → B → Bool → A → Answered A B → Answered A B
refuse now test answer rest = cond test (record { answer = answer; after = now }) rest

-- the same, with the paper's number for the answer
unfoldable pub numbered : {A B : Type 0} → (A → ℕ) → Answered A B → Answered ℕ B
numbered number a = record { answer = number a.answer; after = a.after }
