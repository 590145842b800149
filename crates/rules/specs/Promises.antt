-- What each public function promises, by name: one equation between a definition of all that went in and what came out, the answer and every buffer and
-- register that was lent. The code's `ensures` cite these names, and crate `safety` shows of the same names that they determine the result.
use Rattle.std.specs.Prelude.{◌≡◌, ℕ, List}
use Rattle.rules.specs.Answers.{Registers, Plan, Outcome, Launched, Verdict, outcome_number, launched_number, verdict_number, Answered, numbered}
use Rattle.rules.specs.Call.{Posed}
use Rattle.rules.specs.Flat.{Buffers, launch_bytes, store_bytes, mark_bytes, call_bytes, door_bytes}
use Rattle.rules.specs.Discovery.{Located, located_number, announce, discover}

-- `monitor::launch::launch`, told N and a plan
unfoldable pub LaunchPromise : ℕ → Plan → Buffers → Answered Launched Buffers → Type 0
LaunchPromise n plan lent left = launch_bytes n plan lent ≡ left

-- `monitor::steps::store`, of bytes by a VMPL at an offset of a page; lent the table to look at, and memory
unfoldable pub StorePromise : ℕ → ℕ → ℕ → List ℕ → List ℕ → List ℕ → Answered Verdict (List ℕ) → Type 0
StorePromise c p offset bytes table lent left = store_bytes c p offset bytes table lent ≡ left

-- `monitor::steps::mark`, of a record, running or not; lent the sheet
unfoldable pub MarkPromise : ℕ → ℕ → List ℕ → Answered Verdict (List ℕ) → Type 0
MarkPromise i value lent left = mark_bytes i value lent ≡ left

-- `call::call`, and `door::in_place::call`
unfoldable pub CallPromise : ℕ → Posed Registers Buffers → Answered Outcome (Posed Registers Buffers) → Type 0
CallPromise caller lent left = call_bytes caller lent ≡ left

-- `door::monitor_launch`, `monitor_store`, `monitor_mark`, `monitor_call`: the same with the paper's numbers, and the registers as bytes
unfoldable pub MonitorLaunchPromise : ℕ → Plan → Buffers → Answered ℕ Buffers → Type 0
MonitorLaunchPromise n plan lent left = numbered launched_number (launch_bytes n plan lent) ≡ left

unfoldable pub MonitorStorePromise : ℕ → ℕ → ℕ → List ℕ → List ℕ → List ℕ → Answered ℕ (List ℕ) → Type 0
MonitorStorePromise c p offset bytes table lent left = numbered verdict_number (store_bytes c p offset bytes table lent) ≡ left

unfoldable pub MonitorMarkPromise : ℕ → ℕ → List ℕ → Answered ℕ (List ℕ) → Type 0
MonitorMarkPromise i value lent left = numbered verdict_number (mark_bytes i value lent) ≡ left

unfoldable pub MonitorCallPromise : ℕ → Posed (List ℕ) Buffers → Answered ℕ (Posed (List ℕ) Buffers) → Type 0
MonitorCallPromise caller lent left = numbered outcome_number (door_bytes caller lent) ≡ left

-- `discovery::announce`, of base, size, area and VMPL; lent the page
unfoldable pub AnnouncePromise : (base size area vmpl : ℕ) → List ℕ → Answered Located (List ℕ) → Type 0
AnnouncePromise base size area vmpl lent left = announce base size area vmpl lent ≡ left

-- `discovery::discover`; lent the page to look at, and the bytes for its fields
unfoldable pub DiscoverPromise : List ℕ → List ℕ → Answered Located (List ℕ) → Type 0
DiscoverPromise page lent left = discover page lent ≡ left

-- `door::monitor_announce`, `monitor_discover`: the same with the paper's numbers
unfoldable pub MonitorAnnouncePromise : (base size area vmpl : ℕ) → List ℕ → Answered ℕ (List ℕ) → Type 0
MonitorAnnouncePromise base size area vmpl lent left = numbered located_number (announce base size area vmpl lent) ≡ left

unfoldable pub MonitorDiscoverPromise : List ℕ → List ℕ → Answered ℕ (List ℕ) → Type 0
MonitorDiscoverPromise page lent left = numbered located_number (discover page lent) ≡ left
