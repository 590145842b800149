-- "Show that any two results allowed by it coincide": of the promise of each public function, as `rules` names it and the code's `ensures` cites it, with all
-- that went in. A result is the answer and every buffer and register that was lent to be changed. Those of the discovery fields are in Discovery.
use Rattle.std.specs.Prelude.{◌≡◌, List, ℕ}
use Rattle.rules.specs.declared.Registers.{Registers}
use Rattle.rules.specs.declared.Plan.{Plan}
use Rattle.rules.specs.Answers.{outcome_number, code_number, launched_number, verdict_number}
use Rattle.rules.specs.Call.{Posed}
use Rattle.rules.specs.Flat.{Buffers}
use Rattle.rules.specs.Promises.{LaunchPromise, StorePromise, MarkPromise, CallPromise}
use Rattle.rules.specs.Promises.{MonitorLaunchPromise, MonitorStorePromise, MonitorMarkPromise, MonitorCallPromise}

-- two results that the promise allows are one
unfoldable pub Determined : {A : Type 0} → (A → Type 0) → Type 0
Determined {A = A} promise = (one other : A) → promise one → promise other → one ≡ other

-- `monitor::launch::launch`, `monitor::steps::store`, `monitor::steps::mark`
unfoldable pub LaunchDetermined : Type 0
LaunchDetermined = (n : ℕ) (plan : Plan) (lent : Buffers) → Determined (LaunchPromise n plan lent)

unfoldable pub StoreDetermined : Type 0
StoreDetermined = (c p offset : ℕ) (bytes table lent : List ℕ) → Determined (StorePromise c p offset bytes table lent)

unfoldable pub MarkDetermined : Type 0
MarkDetermined = (i value : ℕ) (lent : List ℕ) → Determined (MarkPromise i value lent)

-- `call::call`, and `door::in_place::call`, whose promise is the same
unfoldable pub CallDetermined : Type 0
CallDetermined = (caller : ℕ) (lent : Posed Registers Buffers) → Determined (CallPromise caller lent)

-- `door::monitor_launch`, `monitor_store`, `monitor_mark`, `monitor_call`
unfoldable pub MonitorLaunchDetermined : Type 0
MonitorLaunchDetermined = (n : ℕ) (plan : Plan) (lent : Buffers) → Determined (MonitorLaunchPromise n plan lent)

unfoldable pub MonitorStoreDetermined : Type 0
MonitorStoreDetermined = (c p offset : ℕ) (bytes table lent : List ℕ) → Determined (MonitorStorePromise c p offset bytes table lent)

unfoldable pub MonitorMarkDetermined : Type 0
MonitorMarkDetermined = (i value : ℕ) (lent : List ℕ) → Determined (MonitorMarkPromise i value lent)

unfoldable pub MonitorCallDetermined : Type 0
MonitorCallDetermined = (caller : ℕ) (lent : Posed (List ℕ) Buffers) → Determined (MonitorCallPromise caller lent)

-- "For each answer that is an enum, a definition gives this paper's number": two cases with one number are one, so that the numbers lose nothing
unfoldable pub ToldApart : {A : Type 0} → (A → ℕ) → Type 0
ToldApart {A = A} number = (one other : A) → number one ≡ number other → one ≡ other

unfoldable pub AnswersToldApart : Type 0
AnswersToldApart = ToldApart outcome_number × ToldApart code_number × ToldApart launched_number × ToldApart verdict_number
