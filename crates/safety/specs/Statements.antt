-- What is proved of the definitions: demands 1 and 3. Demand 3 comes first, whole and about the bytes that a host holds; then its parts, on machines, each under its
-- number; then what holds of every call, on machines and on bytes, sound or not. The words are in Terms. This file can be read without the proofs, which are
-- in proofs/; proofs/Theorems.antt has one for each statement.
use Rattle.std.specs.Prelude.{◌≡◌, ◌⊎◌, true, false, List, [], ◌∷◌, ℕ, suc, ◌+◌, ◌-◌, ◌<◌, ◌≤◌, length, get_or, Ok}
use Rattle.rules.specs.Words.{records, records_without_pool, between, bit}
use Rattle.rules.specs.declared.Registers.{Registers}
use Rattle.rules.specs.declared.Plan.{Plan}
use Rattle.rules.specs.declared.Outcome.TheVariants.{Handled, Gone}
use Rattle.rules.specs.declared.ListCall.{ListCall}
use Rattle.rules.specs.declared.ListCall.TheVariants.{Pvalidate}
use Rattle.rules.specs.declared.Wish.{Wish}
use Rattle.rules.specs.Answers.{reads, launched_number}
use Rattle.rules.specs.Machine.{Lent, Machine, N, page_of, page_at, owner, monitor, vmsa_area, permitted, valid, table_byte, is_live, record_at, vcpu}
use Rattle.rules.specs.Launch.{launch}
use Rattle.rules.specs.Sound.{table_sized, pages_sized, sound}
use Rattle.rules.specs.Lists.{list_next, list_entry, read_entry, carry_out_all, store_index, run}
use Rattle.rules.specs.Call.{Posed}
use Rattle.rules.specs.Flat.{Buffers, parted, well_sized, sound_bytes, launch_bytes, call_bytes, registers_of, door_bytes}
use Rattle.rules.specs.Runs.{Step, calls, stores, marks, called, step, run_steps, in_pool, pool, handled_as, taken_in, given_back, over_run}
use Rattle.safety.specs.Terms.{Back, deletes, gives_back, all_succeed, SamePage, KeptPage, in_use, rounds, withdrawals, Recovered}
use Rattle.safety.specs.Terms.{unreal, LeftByGone, refused, number_of_list_call, LeftByRefusal, covers, covers_valid, second_code, Uncovered}
use Rattle.safety.specs.Terms.{InvalidBy, InvalidatedBefore, Confined, bytes_back, door_back, Act, store_act, mark_act, act, acts, act_deletes}
use Rattle.safety.specs.Terms.{act_gives_back, act_taken_in, act_given_back, over_acts, all_acts_succeed}
use Rattle.safety.specs.Terms.{withdrawal_acts}
use Rattle.safety.specs.Sentences.{SoundMachine}

-- ---- Demand 3, of what a host holds

-- "no step changes a page of owner 2, ever; of owner 5, unless it is deleted; of owner 3 or 4, unless it is given back", where 3 and 4 may turn into each other
pub record KeptBy (a : Act) (b : Buffers) : Type 0 where
  pub monitor_pages : (p : ℕ) → owner (table_byte (parted b) p) ≡ monitor → KeptPage p (parted b) (parted (act a b))
  pub vmsa_pages : (p : ℕ) → owner (table_byte (parted b) p) ≡ vmsa_area → act_deletes p a b ≡ false → KeptPage p (parted b) (parted (act a b))
  pub pool_pages : (p : ℕ) → in_pool (table_byte (parted b) p) ≡ true → act_gives_back p a b ≡ false
      → SamePage p (parted b) (parted (act a b)) × (in_pool (table_byte (parted (act a b)) p) ≡ true)

-- what holds of the bytes after these acts: N as launch was told, the sizes right, and the machine that they are sound; sealed, no VMPL has any permission on a page
-- of owner 2 to 5; kept by any next act; every page of the pool accounted for; at most as many in use as records need one, twelve; and the free ones all come back, in as many rounds as they need
pub record Holds (n : ℕ) (start : Buffers) (done : List Act) : Type 0 where
  pub size : length (acts done start).table ≡ n
  pub sized : well_sized (acts done start) ≡ true
  pub sound : SoundMachine (parted (acts done start))
  pub sealed : (p c : ℕ) → between 2 5 (owner (table_byte (parted (acts done start)) p)) ≡ true
      → permitted c (table_byte (parted (acts done start)) p) ≡ false
  pub kept : (next : Act) → KeptBy next (acts done start)
  pub counted : pool (parted (acts done start)) + over_acts act_given_back done start ≡ over_acts act_taken_in done start
  pub at_most : in_use (parted (acts done start)) ≤ records - records_without_pool
  pub come_back : (others : ℕ → Registers) →
      let now = acts done start in
      let ways = withdrawal_acts (rounds (parted now)) others (parted now) in
      Recovered (all_acts_succeed ways now) (over_acts act_given_back ways now) (parted now) (parted (acts ways now))

-- for any buffers and numbers lent to launch, once it answers 0, after any run of calls, stores and marks
unfoldable pub Demand3 : Type 0
Demand3 =
    (n : ℕ) (plan : Plan) (lent : Buffers) → launched_number (launch_bytes n plan lent).answer ≡ 0
    → (done : List Act) → Holds n (launch_bytes n plan lent).after done

-- `sound` by its sentences: they hold exactly when it says true
unfoldable pub SoundMeans : Type 0
SoundMeans = (m : Lent) → (sound m ≡ true → SoundMachine m) × (SoundMachine m → sound m ≡ true)

-- ---- Its parts: from launch, and from any sound machine

-- 0. Launched: a successful launch, on any memory of right size, gives a sound machine
unfoldable pub LaunchedSound : Type 0
LaunchedSound =
    (plan : Plan) (m : Machine) → table_sized m.lent ≡ true → pages_sized m.lent ≡ true → (launch plan m).answer ≡ Ok tt
    → sound (launch plan m).after.lent ≡ true

-- 1. Sound: after any run of calls, stores and marks, so after each step of it
unfoldable pub StaysSound : Type 0
StaysSound = (steps : List Step) (m : Machine) → sound m.lent ≡ true → sound (run_steps steps m).lent ≡ true

-- 2. Sealed: after any run, no VMPL has any permission on a page of owner 2, 3, 4 or 5
unfoldable pub Sealed : Type 0
Sealed =
    (ss : List Step) (m : Machine) → sound m.lent ≡ true
    → (p c : ℕ) → between 2 5 (owner (table_byte (run_steps ss m).lent p)) ≡ true → permitted c (table_byte (run_steps ss m).lent p) ≡ false

-- 3. Kept: a step leaves the monitor's pages; VMSA pages, unless it deletes that very one; pages of the pool, unless it gives back that very one
unfoldable pub MonitorKept : Type 0
MonitorKept =
    (s : Step) (m : Machine) → sound m.lent ≡ true → (p : ℕ) → owner (table_byte m.lent p) ≡ monitor
    → KeptPage p m.lent (step s m).lent

unfoldable pub VmsaKept : Type 0
VmsaKept =
    (s : Step) (m : Machine) → sound m.lent ≡ true → (p : ℕ) → owner (table_byte m.lent p) ≡ vmsa_area → deletes p s m ≡ false
    → KeptPage p m.lent (step s m).lent

unfoldable pub PoolKept : Type 0
PoolKept =
    (s : Step) (m : Machine) → sound m.lent ≡ true → (p : ℕ) → in_pool (table_byte m.lent p) ≡ true → gives_back p s m ≡ false
    → SamePage p m.lent (step s m).lent × (in_pool (table_byte (step s m).lent p) ≡ true)

-- 4. Counted: pool after + given back = pool before + taken in, for each step, summed over a run, and from launch, where the pool is empty. What is taken in
-- and given back is read from the lists in memory (Runs)
unfoldable pub StepCounted : Type 0
StepCounted = (s : Step) (m : Machine) → sound m.lent ≡ true → pool (step s m).lent + given_back s m ≡ pool m.lent + taken_in s m

unfoldable pub RunCounted : Type 0
RunCounted =
    (ss : List Step) (m : Machine) → sound m.lent ≡ true
    → pool (run_steps ss m).lent + over_run given_back ss m ≡ pool m.lent + over_run taken_in ss m

unfoldable pub CountedFromLaunch : Type 0
CountedFromLaunch =
    (plan : Plan) (m : Machine) (ss : List Step) → table_sized m.lent ≡ true → pages_sized m.lent ≡ true → (launch plan m).answer ≡ Ok tt
    → pool (run_steps ss (launch plan m).after).lent + over_run given_back ss (launch plan m).after ≡ over_run taken_in ss (launch plan m).after

-- 5. At most: after any run, the pages in use of the pool are no more than the records that need one, twelve
unfoldable pub AtMost : Type 0
AtMost = (ss : List Step) (m : Machine) → sound m.lent ≡ true → in_use (run_steps ss m).lent ≤ records - records_without_pool

-- 6. All come back: in so many rounds, each a store and a Withdraw by the startup vCPU
unfoldable pub AllComeBack : Type 0
AllComeBack =
    (m : Machine) (others : ℕ → Registers) → sound m.lent ≡ true →
    let ways = withdrawals (rounds m.lent) others m.lent in
    Recovered (all_succeed ways m) (over_run given_back ways m) m.lent (run_steps ways m).lent

-- ---- Of every call whatever, wrong sizes and unsound machines included. A law says something of the caller, its registers, the machine on entry, and what
-- the call came back with; it holds of the definition on machines, of the one on bytes that the code's promise cites, and of the one at the door, where the
-- registers are bytes too, each below 256

unfoldable pub OnMachines : (ℕ → Registers → Lent → Back → Type 0) → Type 0
OnMachines law = (caller : ℕ) (g : Registers) (m : Machine) → law caller g m.lent (called caller g m)

unfoldable pub OnBytes : (ℕ → Registers → Lent → Back → Type 0) → Type 0
OnBytes law = (caller : ℕ) (s : Posed Registers Buffers) → law caller s.registers (parted s.machine) (bytes_back caller s)

unfoldable pub OnDoor : (ℕ → Registers → Lent → Back → Type 0) → Type 0
OnDoor law =
    (caller : ℕ) (registers : List ℕ) (b : Buffers) → ((k : ℕ) → get_or registers k 0 < 256)
    → law caller (registers_of registers) (parted b) (door_back caller registers b)

unfoldable pub OfEveryCall : (ℕ → Registers → Lent → Back → Type 0) → Type 0
OfEveryCall law = OnMachines law × OnBytes law × OnDoor law

-- 7. No call, bad machine: everything as it was; with the registers as a record, and as bytes, which are below 256
unfoldable pub UnrealChangesNothing : Type 0
UnrealChangesNothing =
    (caller : ℕ) (s : Posed Registers Buffers) → unreal (call_bytes caller s).answer ≡ true → (call_bytes caller s).after ≡ s

unfoldable pub UnrealChangesNoByte : Type 0
UnrealChangesNoByte =
    (caller : ℕ) (s : Posed (List ℕ) Buffers) → ((k : ℕ) → get_or s.registers k 0 < 256) → unreal (door_bytes caller s).answer ≡ true
    → (door_bytes caller s).after ≡ s

-- Gone: all that is left is settled; and who is told that the call was handled is still there
unfoldable pub GoneLaw : ℕ → Registers → Lent → Back → Type 0
GoneLaw caller g m a =
    (a.answer ≡ Gone → LeftByGone caller g m a.after) × (a.answer ≡ Handled → is_live (record_at a.after.machine.lent caller) ≡ true)

unfoldable pub GoneLeaves : Type 0
GoneLeaves = OfEveryCall GoneLaw

-- 8. Refused
unfoldable pub RefusalLaw : ℕ → Registers → Lent → Back → Type 0
RefusalLaw caller g m a = a.answer ≡ Handled → refused a.after.registers ≡ true → LeftByRefusal caller g m a.after

unfoldable pub RefusalLeaves : Type 0
RefusalLeaves = OfEveryCall RefusalLaw

-- 9. No second validation, the old monitor's fault: a page was validated twice, and the host slid an old page back. Of whole calls: entry k, one that the index
-- has passed, covers page p with wish 1. Then it has bit 3, or the page was not valid when the call came to it
unfoldable pub ValidationLaw : ℕ → Registers → Lent → Back → Type 0
ValidationLaw caller g m a =
    handled_as 1 g a.answer ≡ true
    → (k p : ℕ) → list_next g.rcx m ≤ k → k < list_next g.rcx a.after.machine.lent
    → bit 2 (list_entry k g.rcx m) ≡ true → covers (list_entry k g.rcx m) p ≡ true
    → (bit 3 (list_entry k g.rcx m) ≡ true) ⊎ InvalidBy k p g.rcx m

-- so a page that was valid on entry of a call and is validated by it had bit 3 in its entry, or was made invalid by an earlier entry of that same call
unfoldable pub RevalidationLaw : ℕ → Registers → Lent → Back → Type 0
RevalidationLaw caller g m a =
    handled_as 1 g a.answer ≡ true
    → (k p : ℕ) → list_next g.rcx m ≤ k → k < list_next g.rcx a.after.machine.lent
    → bit 2 (list_entry k g.rcx m) ≡ true → covers (list_entry k g.rcx m) p ≡ true → valid (table_byte m p) ≡ true
    → (bit 3 (list_entry k g.rcx m) ≡ true) ⊎ InvalidatedBefore k p g.rcx m

unfoldable pub ValidatedOnceACall : Type 0
ValidatedOnceACall = OfEveryCall ValidationLaw

unfoldable pub RevalidatedByLeave : Type 0
RevalidatedByLeave = OfEveryCall RevalidationLaw

-- and a list call does what the index tells, 32 entries at most: a page that no passed entry covers, and that does not hold the list, has its table byte as it was,
-- and its bytes but for the two of a calling area. (A machine cut from bytes of right size has whole pages.)
unfoldable pub PassedLaw : ℕ → Registers → Lent → Back → Type 0
PassedLaw caller g m a =
    (call : ListCall) → pages_sized m ≡ true → handled_as (number_of_list_call call) g a.answer ≡ true →
    let next = list_next g.rcx m in
    let passed = list_next g.rcx a.after.machine.lent in
    (passed ≤ next + 32)
    × ((p : ℕ) → (p ≡ page_of g.rcx → ⊥) → Uncovered next passed p g.rcx m
    → (table_byte a.after.machine.lent p ≡ table_byte m p)
    × ((k : ℕ) → 2 ≤ k → get_or (page_at a.after.machine.lent p) k 0 ≡ get_or (page_at m p) k 0))

unfoldable pub PassedAndNoMore : Type 0
PassedAndNoMore = OfEveryCall PassedLaw

-- and of one entry with wish 1 and bit 3 clear: (a) if it is carried out, every covered page was invalid
unfoldable pub ValidatedOnce : Type 0
ValidatedOnce =
    (vmpl rcx e first n : ℕ) (wish : Wish) (m : Lent) → bit 2 e ≡ true → bit 3 e ≡ false → read_entry Pvalidate vmpl rcx e m ≡ reads first n wish
    → covers_valid e m ≡ false

-- (b) if it covers a valid page it is refused, and itself changes no table byte and no memory but the index
unfoldable pub SecondValidationRefused : Type 0
SecondValidationRefused =
    (caller rcx todo k : ℕ) (m : Lent) → bit 2 (list_entry k rcx m) ≡ true → bit 3 (list_entry k rcx m) ≡ false
    → covers_valid (list_entry k rcx m) m ≡ true
    → run Pvalidate caller rcx (suc todo) k m ≡ record { answer = second_code rcx (list_entry k rcx m) m; after = store_index k rcx m }

-- (c) any entry with wish 1 that is carried out, bit 3 or not, leaves its pages zero; and what "carried out" is in a run
unfoldable pub ValidatedPagesZero : Type 0
ValidatedPagesZero =
    (vmpl rcx e first n : ℕ) (wish : Wish) (m : Lent) → bit 2 e ≡ true → read_entry Pvalidate vmpl rcx e m ≡ reads first n wish
    → (p k : ℕ) → covers e p ≡ true → get_or (page_at (carry_out_all wish vmpl first n m) p) k 0 ≡ 0

unfoldable pub CarriedOut : Type 0
CarriedOut =
    (call : ListCall) (caller rcx todo k first n : ℕ) (wish : Wish) (m : Lent) → read_entry call (vcpu m caller).vmpl rcx (list_entry k rcx m) m ≡ reads first n wish
    → run call caller rcx (suc todo) k m ≡ run call caller rcx todo (suc k) (carry_out_all wish (vcpu m caller).vmpl first n m)

-- 10. Confined: a call by VMPL c gives no page a permission above c, makes no vCPU of a VMPL below c, by its record or by its VMSA, and deletes none
unfoldable pub ConfinementLaw : ℕ → Registers → Lent → Back → Type 0
ConfinementLaw caller g m a = Confined (vcpu m caller).vmpl m a.after.machine.lent

unfoldable pub CallsConfined : Type 0
CallsConfined = OfEveryCall ConfinementLaw

-- ---- On the lent bytes. The promises of the code speak of flat bytes, the statements above of machines

-- a call keeps the sizes of any machine of right size, sound or not
unfoldable pub SizesKept : Type 0
SizesKept =
    (caller : ℕ) (g : Registers) (m : Machine) → table_sized m.lent ≡ true → pages_sized m.lent ≡ true →
    let after = (called caller g m).after.machine.lent in
    (table_sized after ≡ true) × (pages_sized after ≡ true) × (N after ≡ N m.lent)

-- so that on bytes of right size, sound or not, the call on bytes is the call on the machine that they are
unfoldable pub CallsOnBytes : Type 0
CallsOnBytes =
    (caller : ℕ) (s : Posed Registers Buffers) → well_sized s.machine ≡ true
    → bytes_back caller s ≡ called caller s.registers (record { lent = parted s.machine })

-- a launch that is made on bytes gives a sound machine; and from any sound machine a run of steps on bytes is the run on machines, here for a caller that lends the
-- registers as one record
unfoldable pub step_bytes : Step → Buffers → Buffers
step_bytes (calls caller g) b = (call_bytes caller (record { registers = g; machine = b })).after.machine
step_bytes (stores c p offset bytes) b = act (store_act c p offset bytes) b
step_bytes (marks i value) b = act (mark_act i value) b

unfoldable pub run_bytes : List Step → Buffers → Buffers
run_bytes [] b = b
run_bytes (s ∷ ss) b = run_bytes ss (step_bytes s b)

unfoldable pub LaunchedOnBytes : Type 0
LaunchedOnBytes = (n : ℕ) (plan : Plan) (b : Buffers) → (launch_bytes n plan b).answer ≡ Ok tt → sound_bytes (launch_bytes n plan b).after ≡ true

unfoldable pub RunsOnBytes : Type 0
RunsOnBytes =
    (ss : List Step) (b : Buffers) → sound_bytes b ≡ true
    → (sound_bytes (run_bytes ss b) ≡ true) × (parted (run_bytes ss b) ≡ (run_steps ss (record { lent = parted b })).lent)
