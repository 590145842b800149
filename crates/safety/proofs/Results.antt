-- Two results that the promise of a public function allows for the same input coincide: one law, and each promise an instance of it. Those of the discovery fields are
-- in Discovery.
use mathlib.Core.Path.{◌≡◌, sym, ◌∙◌}
use Rattle.rules.specs.Promises.{LaunchPromise, StorePromise, MarkPromise, CallPromise}
use Rattle.rules.specs.Promises.{MonitorLaunchPromise, MonitorStorePromise, MonitorMarkPromise, MonitorCallPromise}
use Rattle.safety.specs.Determined.{Determined, LaunchDetermined, StoreDetermined, MarkDetermined, CallDetermined}
use Rattle.safety.specs.Determined.{MonitorLaunchDetermined, MonitorStoreDetermined, MonitorMarkDetermined, MonitorCallDetermined}

-- what equals one thing is equal
pub determined : {A : Type 0} (promised : A) → Determined (λ left. promised ≡ left)
unfolding Determined
determined promised one other e f = sym e ∙ f

pub launch_determined : LaunchDetermined
unfolding LaunchDetermined LaunchPromise
launch_determined n plan lent = determined _

pub store_determined : StoreDetermined
unfolding StoreDetermined StorePromise
store_determined c p offset bytes table lent = determined _

pub mark_determined : MarkDetermined
unfolding MarkDetermined MarkPromise
mark_determined i value lent = determined _

pub call_determined : CallDetermined
unfolding CallDetermined CallPromise
call_determined caller lent = determined _

pub monitor_launch_determined : MonitorLaunchDetermined
unfolding MonitorLaunchDetermined MonitorLaunchPromise
monitor_launch_determined n plan lent = determined _

pub monitor_store_determined : MonitorStoreDetermined
unfolding MonitorStoreDetermined MonitorStorePromise
monitor_store_determined c p offset bytes table lent = determined _

pub monitor_mark_determined : MonitorMarkDetermined
unfolding MonitorMarkDetermined MonitorMarkPromise
monitor_mark_determined i value lent = determined _

pub monitor_call_determined : MonitorCallDetermined
unfolding MonitorCallDetermined MonitorCallPromise
monitor_call_determined caller lent = determined _
