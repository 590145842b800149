-- A proof for each statement of specs/Statements.antt, under its number. Nothing is assumed.
use mathlib.Core.Path.{◌≡◌}
use mathlib.Core.Bool.{true}
use Prim.Native.Nat.{ℕ, ◌<◌}
use native.Mathlib.Omega.{arith}
use Rattle.rules.specs.Words.{records, entries_a_call}
use Rattle.rules.specs.Machine.{Lent, is_live, record_at}
use Rattle.rules.specs.Runs.{run_steps}
use Rattle.safety.specs.Statements.{Demand3, SoundMeans, LaunchedSound, StaysSound, Sealed, MonitorKept, VmsaKept, PoolKept, StepCounted}
use Rattle.safety.specs.Statements.{RunCounted}
use Rattle.safety.specs.Statements.{CountedFromLaunch, AtMost, AllComeBack, UnrealChangesNothing, UnrealChangesNoByte}
use Rattle.safety.specs.Statements.{GoneLaw, GoneLeaves, RefusalLaw, RefusalLeaves, ValidationLaw, ValidatedOnceACall, RevalidationLaw}
use Rattle.safety.specs.Statements.{RevalidatedByLeave, PassedLaw, PassedAndNoMore, ValidatedOnce, SecondValidationRefused}
use Rattle.safety.specs.Statements.{ValidatedPagesZero, CarriedOut, ConfinementLaw, CallsConfined, SizesKept, CallsOnBytes, LaunchedOnBytes, RunsOnBytes}
use Rattle.safety.proofs.Keeping.{EachKeeps, run_keeps}
use Rattle.safety.proofs.Sound.Facts.{Sound, open_sound, close_sound}
use Rattle.safety.proofs.Sound.OnePage.{write_sound}
use Rattle.safety.proofs.Sound.Rows.{vmsa_owned, calling_owned, pool_owned}
use Rattle.safety.proofs.Sound.Lists.{list_call_sound}
use Rattle.safety.proofs.Sound.Withdraw.{withdraw_sound}
use Rattle.safety.proofs.Sound.Steps.{mark_sound}
use Rattle.safety.proofs.Sound.Remap.{remap_sound}
use Rattle.safety.proofs.Sound.Delete.{delete_sound}
use Rattle.safety.proofs.Sound.Create.{create_sound}
use Rattle.safety.proofs.Sound.Launch as Launch
use Rattle.safety.proofs.Sound.Said.{said}
use Rattle.safety.proofs.Sound.Suffices.{suffices}
use Rattle.safety.proofs.Kept.Sealed.{sealed_now}
use Rattle.safety.proofs.Kept.Fates.{Owned}
use Rattle.safety.proofs.Kept.Steps as Kept
use Rattle.safety.proofs.Pool.Steps as Pool
use Rattle.safety.proofs.Pool.Runs.{run_counted_by, counted_from_launch_by}
use Rattle.safety.proofs.Pool.InUse as InUse
use Rattle.safety.proofs.Pool.ComeBack.{all_come_back_by}
use Rattle.safety.proofs.Always.Unreal as Unreal
use Rattle.safety.proofs.Always.Gone as Gone
use Rattle.safety.proofs.Always.Refusal as Refusal
use Rattle.safety.proofs.Always.SecondValidation as Second
use Rattle.safety.proofs.Always.WholeCalls as Whole
use Rattle.safety.proofs.Always.Confined as Confined
use Rattle.safety.proofs.Bytes.Sizes as Sizes
use Rattle.safety.proofs.Bytes.Calls as Calls
use Rattle.safety.proofs.Bytes.Every.{of_every_call}
use Rattle.safety.proofs.Bytes.Steps.{launched_on_bytes_by, runs_on_bytes_by}
use Rattle.safety.proofs.Bytes.Demand.{demand_3_by}

-- each call and each other step keeps a machine sound
each_sound : EachKeeps Sound
each_sound =
    record {
      remaps = λ caller rcx m s c. remap_sound caller rcx m s c.below c.live;
      lists = λ kind caller rcx m s c. list_call_sound kind caller rcx c.below entries_a_call m s c.live;
      creates = λ caller rcx rdx r8 m s c. create_sound caller rcx rdx r8 m s c.below c.live;
      deletes = λ caller rcx m s c. delete_sound caller rcx m s c.below c.live;
      withdraws = λ caller rcx m s c. withdraw_sound caller rcx c.below m s c.live;
      writes = write_sound;
      mark_kept = mark_sound;
    }

-- the pages that a live record names have their owners
owned : (m : Lent) → Sound m → (i : ℕ) → i < records → is_live (record_at m i) ≡ true → Owned i m
owned m s i h live = record { vmsa = vmsa_owned m s i h live; calling = calling_owned m s i h live; pool = pool_owned m s i h live }

-- a sound machine, by its sentences
pub sound_means : SoundMeans
unfolding SoundMeans
sound_means m = (λ e. said m (open_sound m e), λ h. close_sound m (suffices m h))

-- 0
pub launched_sound : LaunchedSound
launched_sound = Launch.launched_sound

-- 1
pub stays_sound : StaysSound
unfolding StaysSound
stays_sound ss m e = close_sound _ (run_keeps Sound each_sound ss m (open_sound _ e))

-- 2
pub sealed : Sealed
unfolding Sealed StaysSound
sealed ss m e = sealed_now (run_steps ss m).lent (stays_sound ss m e)

-- 3
pub monitor_kept : MonitorKept
monitor_kept = Kept.monitor_kept each_sound owned

pub vmsa_kept : VmsaKept
vmsa_kept = Kept.vmsa_kept each_sound owned

pub pool_kept : PoolKept
pool_kept = Kept.pool_kept each_sound owned

-- 4
pub step_counted : StepCounted
unfolding StepCounted
step_counted = Pool.step_counted

pub run_counted : RunCounted
unfolding RunCounted StaysSound
run_counted = run_counted_by stays_sound

pub counted_from_launch : CountedFromLaunch
unfolding CountedFromLaunch StaysSound LaunchedSound
counted_from_launch = counted_from_launch_by stays_sound launched_sound

-- 5
pub at_most : AtMost
unfolding AtMost StaysSound
at_most ss m e = omega (arith, InUse.at_most (run_steps ss m).lent (stays_sound ss m e))

-- 6
pub all_come_back : AllComeBack
all_come_back = all_come_back_by owned

-- 7
pub unreal_changes_nothing : UnrealChangesNothing
unfolding UnrealChangesNothing
unreal_changes_nothing = Unreal.unreal_changes_nothing

pub unreal_changes_no_byte : UnrealChangesNoByte
unfolding UnrealChangesNoByte
unreal_changes_no_byte = Unreal.unreal_changes_no_byte

pub gone_leaves : GoneLeaves
unfolding GoneLeaves
gone_leaves = of_every_call GoneLaw Gone.gone_still Gone.gone_leaves

-- 8
pub refusal_leaves : RefusalLeaves
unfolding RefusalLeaves
refusal_leaves = of_every_call RefusalLaw Refusal.refusal_still Refusal.refusal_leaves

-- 9
pub validated_once_a_call : ValidatedOnceACall
unfolding ValidatedOnceACall
validated_once_a_call = of_every_call ValidationLaw Whole.validation_still Whole.validation_of_calls

pub revalidated_by_leave : RevalidatedByLeave
unfolding RevalidatedByLeave
revalidated_by_leave = of_every_call RevalidationLaw Whole.revalidation_still Whole.revalidation_of_calls

pub passed_and_no_more : PassedAndNoMore
unfolding PassedAndNoMore
passed_and_no_more = of_every_call PassedLaw Whole.passed_still Whole.passed_of_calls

pub validated_once : ValidatedOnce
unfolding ValidatedOnce
validated_once = Second.validated_once

pub second_validation_refused : SecondValidationRefused
unfolding SecondValidationRefused
second_validation_refused = Second.second_validation_refused

pub validated_pages_zero : ValidatedPagesZero
unfolding ValidatedPagesZero
validated_pages_zero = Second.validated_pages_zero

pub carried_out : CarriedOut
carried_out = Second.carried_out

-- 10
pub calls_confined : CallsConfined
unfolding CallsConfined
calls_confined = of_every_call ConfinementLaw Confined.confined_still Confined.confined

-- on the lent bytes
pub sizes_kept : SizesKept
sizes_kept = Sizes.sizes_kept

pub calls_on_bytes : CallsOnBytes
calls_on_bytes = Calls.calls_on_bytes

pub launched_on_bytes : LaunchedOnBytes
launched_on_bytes = launched_on_bytes_by launched_sound

pub runs_on_bytes : RunsOnBytes
runs_on_bytes = runs_on_bytes_by stays_sound

-- demand 3, whole
pub demand_3 : Demand3
demand_3 =
    demand_3_by (record {
      launched = launched_sound;
      stays_sound = stays_sound;
      monitor_kept = monitor_kept;
      vmsa_kept = vmsa_kept;
      pool_kept = pool_kept;
      run_counted = run_counted;
      come_back = all_come_back;
    })
