-- The paper's numbers tell the cases of each answer apart: each case can be found again from its number. Those of the discovery fields are in Discovery.
use mathlib.Core.Path.{◌≡◌, refl, sym, ◌∙◌, ap}
use mathlib.Core.Bool.{cond}
use Prim.Native.Nat.{ℕ}
use lib.Dec.{eqb}
use Rattle.std.specs.Prelude.{Ok, Err}
use Rattle.rules.specs.declared.Outcome.{Outcome}
use Rattle.rules.specs.declared.Outcome.TheVariants.{Handled, NoCall, Gone, BadMachine}
use Rattle.rules.specs.declared.Progress.TheVariants.{Success, Incomplete}
use Rattle.rules.specs.declared.Refusal.TheVariants.{OneMorePage, UnknownProtocol, UnknownCall, Address, BadPending, Parameter, Request, InUse, SizeMismatch, NoChange}
use Rattle.rules.specs.declared.LaunchError.TheVariants.{WrongSize, OutOfRange, AreasMeet, UnfitVmsa}
use Rattle.rules.specs.Answers.{Code, Launched, Verdict, refusal, outcome_number, code_number, launched_number, verdict_number}
use Rattle.safety.specs.Determined.{ToldApart, AnswersToldApart}

-- a number from which the case can be found again tells it apart
pub found_again : {A : Type 0} (number : A → ℕ) (find : ℕ → A) → ((a : A) → find (number a) ≡ a) → ToldApart number
unfolding ToldApart
found_again number find finds one other e = sym (finds one) ∙ ap find e ∙ finds other

find_outcome : ℕ → Outcome
find_outcome n = cond (eqb n 0) Handled (cond (eqb n 1) NoCall (cond (eqb n 2) Gone BadMachine))

outcome_found : (o : Outcome) → find_outcome (outcome_number o) ≡ o
unfolding find_outcome outcome_number
outcome_found Handled = refl
outcome_found NoCall = refl
outcome_found Gone = refl
outcome_found BadMachine = refl

find_code : ℕ → Code
find_code n =
    cond (eqb n 0) (Ok Success)
    (cond (eqb n 0x40000001) (Err OneMorePage)
    (cond (eqb n 0x80000000) (Ok Incomplete)
    (cond (eqb n 0x80000001) (Err UnknownProtocol)
    (cond (eqb n 0x80000002) (Err UnknownCall)
    (cond (eqb n 0x80000003) (Err Address)
    (cond (eqb n 0x80000004) (Err BadPending)
    (cond (eqb n 0x80000005) (Err Parameter)
    (cond (eqb n 0x80000006) (Err Request) (cond (eqb n 0x80001003) (Err InUse) (cond (eqb n 0x80001006) (Err SizeMismatch) (Err NoChange)))))))))))

code_found : (c : Code) → find_code (code_number c) ≡ c
unfolding find_code code_number
code_found (Ok Success) = refl
code_found (Err OneMorePage) = refl
code_found (Ok Incomplete) = refl
code_found (Err UnknownProtocol) = refl
code_found (Err UnknownCall) = refl
code_found (Err Address) = refl
code_found (Err BadPending) = refl
code_found (Err Parameter) = refl
code_found (Err Request) = refl
code_found (Err InUse) = refl
code_found (Err SizeMismatch) = refl
code_found (Err NoChange) = refl

find_launched : ℕ → Launched
find_launched n = cond (eqb n 0) (Ok tt) (cond (eqb n 1) (Err WrongSize) (cond (eqb n 2) (Err OutOfRange) (cond (eqb n 3) (Err AreasMeet) (Err UnfitVmsa))))

launched_found : (l : Launched) → find_launched (launched_number l) ≡ l
unfolding find_launched launched_number
launched_found (Ok made) = refl
launched_found (Err WrongSize) = refl
launched_found (Err OutOfRange) = refl
launched_found (Err AreasMeet) = refl
launched_found (Err UnfitVmsa) = refl

find_verdict : ℕ → Verdict
find_verdict n = cond (eqb n 0) (Ok tt) (Err refusal)

verdict_found : (v : Verdict) → find_verdict (verdict_number v) ≡ v
unfolding find_verdict verdict_number
verdict_found (Ok done) = refl
verdict_found (Err why) = refl

pub answers_told_apart : AnswersToldApart
unfolding AnswersToldApart
answers_told_apart = (
  found_again outcome_number find_outcome outcome_found,
  found_again code_number find_code code_found,
  found_again launched_number find_launched launched_found,
  found_again verdict_number find_verdict verdict_found,
)
