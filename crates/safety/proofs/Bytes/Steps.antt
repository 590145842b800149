-- From bytes that are a sound machine, each step on bytes is the step on the machine that they are; and a launch that is made on bytes gives a sound machine.
use mathlib.Core.Path.{◌≡◌, refl, sym, ◌∙◌, ap}
use mathlib.Core.Bool.{true, ◌&&◌, and-eq-true_iff}
use mathlib.Core.List.{List, [], ◌∷◌}
use Prim.Native.Nat.{ℕ}
use native.Mathlib.Omega.{arith}
use lib.Dec.{eqb}
use lib.ListN.{length, length-map}
use borrow.Author.Tests.{eqb-true}
use Rattle.std.specs.Prelude.{Ok, Err}
use Rattle.rules.specs.declared.Registers.{Registers}
use Rattle.rules.specs.declared.LaunchError.TheVariants.{WrongSize}
use Rattle.rules.specs.declared.Plan.{Plan}
use Rattle.rules.specs.Answers.{Launched, Answered, refuse, launched_number}
use Rattle.rules.specs.Machine.{Lent, Machine, with_lent, N, below, with_memory, write, table_byte, record_at, amend}
use Rattle.rules.specs.Words.{range}
use Rattle.rules.specs.Launch.{launch_byte, launch_table, made, launch}
use Rattle.rules.specs.Steps.{may_store, store, may_mark, mark}
use Rattle.rules.specs.Sound.{sound}
use Rattle.rules.specs.Flat.{Buffers, join, parted, joined, well_sized, sound_bytes, launch_bytes, store_bytes, mark_bytes, call_bytes}
use Rattle.rules.specs.Runs.{Step, calls, stores, marks, called, step, run_steps, pool}
use Rattle.laws.proofs.Ranges.{by_test, length_range}
use Rattle.laws.proofs.FlatSteps.{join_memory, join_sheet}
use Rattle.safety.specs.Terms.{act}
use Rattle.safety.specs.Statements.{step_bytes, run_bytes, LaunchedSound, StaysSound, LaunchedOnBytes, RunsOnBytes}
use Rattle.safety.proofs.Checks.{not_made, launch_made}
use Rattle.safety.proofs.Sound.Facts.{open_sound}
use Rattle.safety.proofs.Sound.Sizes.{sizes_of}
use Rattle.safety.proofs.Pool.Runs.{launched_empty}
use Rattle.safety.proofs.Bytes.Parted.{parted_joined, sound_joined, both_sized, parted_sized}

-- a store leaves table and sheet, a mark memory and table
store_leaves : (c p offset : ℕ) (bytes : List ℕ) (m : Lent)
    → ((store c p offset bytes m).after.table ≡ m.table) × ((store c p offset bytes m).after.sheet ≡ m.sheet)
unfolding store refuse write with_memory
store_leaves c p offset bytes m = by_test (may_store c p offset (length bytes) m) (λ t. rw t (refl, refl)) (λ t. rw t (refl, refl))

mark_leaves : (i value : ℕ) (m : Lent) → ((mark i value m).after.memory ≡ m.memory) × ((mark i value m).after.table ≡ m.table)
unfolding mark refuse amend
mark_leaves i value m = by_test (may_mark i value m) (λ t. rw t (refl, refl)) (λ t. rw t (refl, refl))

module _ (b : Buffers) (w : well_sized b ≡ true) where
  -- a call
  pub call_step : (caller : ℕ) (g : Registers)
      → (call_bytes caller (record { registers = g; machine = b })).after.machine ≡ joined (called caller g (record { lent = parted b })).after.machine.lent
  unfolding call_bytes called refuse
  call_step caller g = rw w

  -- a store, with its answer
  pub store_told : (c p offset : ℕ) (bytes : List ℕ)
      → store_bytes c p offset bytes b.table b.memory
      ≡ record { answer = (store c p offset bytes (parted b)).answer; after = join (store c p offset bytes (parted b)).after.memory }
  unfolding store_bytes store refuse parted may_store below N table_byte write with_memory
  store_told c p offset bytes =
      rw (both_sized b w).0
      (by_test (may_store c p offset (length bytes) (parted b)) (λ t. rw t) (λ t. rw t))

  -- and a mark
  pub mark_told : (i value : ℕ)
      → mark_bytes i value b.sheet ≡ record { answer = (mark i value (parted b)).answer; after = join (mark i value (parted b)).after.sheet }
  unfolding mark_bytes mark refuse parted may_mark record_at amend
  mark_told i value = rw (both_sized b w).1 (by_test (may_mark i value (parted b)) (λ t. rw t) (λ t. rw t))

  -- each step on bytes is the step on the machine, joined
  bytes_step : (s : Step) → step_bytes s b ≡ joined (step s (record { lent = parted b })).lent
  unfolding step_bytes act step joined with_lent parted
  bytes_step (calls caller g) = call_step caller g
  bytes_step (stores c p offset bytes) =
      λ i. record {
        memory = (store_told c p offset bytes i).after;
        table = sym (store_leaves c p offset bytes (parted b)).0 i;
        sheet = sym (ap join (store_leaves c p offset bytes (parted b)).1 ∙ join_sheet b.sheet (both_sized b w).1) i;
      }
  bytes_step (marks j value) =
      λ i. record {
        memory = sym (ap join (mark_leaves j value (parted b)).0 ∙ join_memory b.table b.memory (both_sized b w).0) i;
        table = sym (mark_leaves j value (parted b)).1 i;
        sheet = (mark_told j value i).after;
      }

-- a sound machine's bytes after a step: sound, and the machine after it
module _ (kept : StaysSound) where
  pub step_agrees : (s : Step) (b : Buffers) → sound_bytes b ≡ true
      → (sound_bytes (step_bytes s b) ≡ true) × (parted (step_bytes s b) ≡ (step s (record { lent = parted b })).lent)
  unfolding sound_bytes StaysSound run_steps
  step_agrees s b e =
      let both = (and-eq-true_iff (well_sized b) (sound (parted b))).0 e in
      let after = (step s (record { lent = parted b })).lent in
      let fine : sound after ≡ true = kept (s ∷ []) (record { lent = parted b }) both.1 in
      let same = bytes_step b both.0 s in
      (ap sound_bytes same ∙ sound_joined after fine, ap parted same ∙ parted_joined after (sizes_of (open_sound after fine)))

  -- from bytes that are a sound machine, a run on bytes is the run of that machine
  pub runs_on_bytes_by : RunsOnBytes
  unfolding RunsOnBytes run_bytes run_steps
  runs_on_bytes_by [] b e = (e, refl)
  runs_on_bytes_by (s ∷ ss) b e =
      let one = step_agrees s b e in
      let rest = runs_on_bytes_by ss (step_bytes s b) one.0 in
      (rest.0, rest.1 ∙ ap (λ m. (run_steps ss (record { lent = m })).lent) one.1)

-- ---- launch

-- one that is made on bytes was lent n pages, all of right size, and is the launch on the machine that they are
pub launch_told : (n : ℕ) (plan : Plan) (b : Buffers) → (launch_bytes n plan b).answer ≡ Ok tt →
    let l = launch plan (record { lent = parted b }) in
    (well_sized b ≡ true) × (n ≡ length b.table) × (launch_bytes n plan b ≡ record { answer = l.answer; after = joined l.after.lent })
unfolding launch_bytes refuse launched_number
launch_told n plan b e =
    by_test (well_sized b && eqb n (length b.table))
    (λ t.
    let both = (and-eq-true_iff (well_sized b) (eqb n (length b.table))).0 t in
    (both.0, eqb-true n (length b.table) both.1, rw t))
    (λ t. not_made (Err WrongSize) (omega arith) (rw t at e))

-- launch keeps how many pages there are
launched_size : (plan : Plan) (m : Machine) → (launch plan m).answer ≡ Ok tt → length (launch plan m).after.lent.table ≡ length m.lent.table
unfolding made launch_table write with_memory N
launched_size plan m e =
    let pages = length m.lent.table in
    rw (launch_made plan m e).after (length-map (range 0 pages) (launch_byte plan) ∙ length_range 0 pages)

module _ (made : LaunchedSound) (n : ℕ) (plan : Plan) (b : Buffers) (e : (launch_bytes n plan b).answer ≡ Ok tt) where
  abbrev launched : Answered Launched Machine
  launched = launch plan (record { lent = parted b })

  made_there : launched.answer ≡ Ok tt
  made_there = sym (ap (λ a. a.answer) (launch_told n plan b e).2) ∙ e

  sound_there : sound launched.after.lent ≡ true
  unfolding LaunchedSound
  sound_there =
      let sizes = parted_sized b (launch_told n plan b e).0 in
      made plan (record { lent = parted b }) sizes.tables sizes.memories made_there

  -- it gives a sound machine
  pub launch_sound : sound_bytes (launch_bytes n plan b).after ≡ true
  launch_sound = rw (launch_told n plan b e).2 (sound_joined _ sound_there)

  -- whose pool is empty
  pub launch_empty : pool (parted (launch_bytes n plan b).after) ≡ 0
  launch_empty =
      rw ((launch_told n plan b e).2, parted_joined _ (sizes_of (open_sound _ sound_there))) (launched_empty plan (record { lent = parted b }) made_there)

  -- with n pages
  pub launch_size : N (parted (launch_bytes n plan b).after) ≡ n
  unfolding parted joined N
  launch_size =
      ap (λ a. length a.after.table) (launch_told n plan b e).2 ∙ launched_size plan (record { lent = parted b }) made_there
      ∙ sym (launch_told n plan b e).1

pub launched_on_bytes_by : LaunchedSound → LaunchedOnBytes
unfolding LaunchedOnBytes
launched_on_bytes_by = launch_sound
