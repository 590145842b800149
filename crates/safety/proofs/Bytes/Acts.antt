-- An act of the host, on bytes that are a sound machine, is a step of that machine, and deletes, gives back, takes in and succeeds as the step does; so for a
-- list of acts.
use mathlib.Core.Path.{◌≡◌, refl, sym, ◌∙◌, ap, ap₂}
use mathlib.Core.Bool.{true, ◌&&◌, and-eq-true_iff}
use mathlib.Core.List.{List, [], ◌∷◌, map}
use Prim.Native.Nat.{ℕ, ◌+◌}
use lib.Dec.{eqb}
use lib.ListN.{length}
use Rattle.rules.specs.Words.{records, registers_size}
use Rattle.rules.specs.Answers.{refuse}
use Rattle.rules.specs.Machine.{Machine}
use Rattle.rules.specs.Sound.{sound}
use Rattle.rules.specs.Flat.{Buffers, parted, joined, well_sized, sound_bytes, call_bytes, registers_of, door_bytes}
use Rattle.rules.specs.Runs.{Step, calls, stores, marks, step, run_steps, taken_in, given_back, over_run}
use Rattle.laws.proofs.Ranges.{by_test}
use Rattle.laws.proofs.FlatLaunch.{joined_parted}
use Rattle.safety.specs.Terms.{deletes, gives_back, succeeds, all_succeed, Act, call_act, store_act, mark_act, act, acts}
use Rattle.safety.specs.Terms.{act_deletes, act_gives_back, act_taken_in, act_given_back, over_acts, act_succeeds, all_acts_succeed}
use Rattle.safety.specs.Statements.{step_bytes, StaysSound}
use Rattle.safety.proofs.Bytes.Steps.{call_step, store_told, mark_told, step_agrees}
use Rattle.safety.proofs.Bytes.Door.{asks_as, called_by_none, door_alike, deleted_alike, given_back_alike, given_alike, taken_alike, succeeded_alike}

-- the step that an act is
unfoldable pub meant : Act → Step
meant (call_act caller registers) = calls (asks_as caller registers) (registers_of registers)
meant (store_act c p offset bytes) = stores c p offset bytes
meant (mark_act i value) = marks i value

-- the machine that the bytes are
abbrev pub machine : Buffers → Machine
machine b = record { lent = parted b }

-- ---- one act

module _ (b : Buffers) (w : well_sized b ≡ true) where
  call_act_step : (caller : ℕ) (registers : List ℕ)
      → (door_bytes caller (record { registers = registers; machine = b })).after.machine
      ≡ (call_bytes (asks_as caller registers) (record { registers = registers_of registers; machine = b })).after.machine
  unfolding asks_as door_bytes refuse
  call_act_step caller registers =
      let g = registers_of registers in
      by_test (eqb (length registers) registers_size) (λ t. rw t)
      (λ t. rw t
      (sym (call_step b w records g ∙ ap (λ a. joined a.after.machine.lent) (called_by_none g (machine b)) ∙ joined_parted b w)))

  -- an act does to the bytes what its step does
  act_step : (a : Act) → act a b ≡ step_bytes (meant a) b
  unfolding act meant step_bytes
  act_step (call_act caller registers) = call_act_step caller registers
  act_step (store_act c p offset bytes) = refl
  act_step (mark_act i value) = refl

  -- deletes what it deletes
  pub deletes_meant : (p : ℕ) (a : Act) → act_deletes p a b ≡ deletes p (meant a) (machine b)
  unfolding act_deletes deletes meant
  deletes_meant p (call_act caller registers) = deleted_alike (registers_of registers) _ _ (door_alike caller registers b w) p
  deletes_meant p (store_act c q offset bytes) = refl
  deletes_meant p (mark_act i value) = refl

  -- gives back what it gives back
  pub gives_back_meant : (p : ℕ) (a : Act) → act_gives_back p a b ≡ gives_back p (meant a) (machine b)
  unfolding act_gives_back gives_back meant
  gives_back_meant p (call_act caller registers) = given_back_alike (registers_of registers) _ _ (door_alike caller registers b w) p
  gives_back_meant p (store_act c q offset bytes) = refl
  gives_back_meant p (mark_act i value) = refl

  -- as many
  given_meant : (a : Act) → act_given_back a b ≡ given_back (meant a) (machine b)
  unfolding act_given_back given_back meant
  given_meant (call_act caller registers) = given_alike (registers_of registers) _ _ (door_alike caller registers b w)
  given_meant (store_act c p offset bytes) = refl
  given_meant (mark_act i value) = refl

  -- takes in as many
  taken_meant : (a : Act) → act_taken_in a b ≡ taken_in (meant a) (machine b)
  unfolding act_taken_in taken_in meant
  taken_meant (call_act caller registers) = taken_alike (registers_of registers) _ _ (door_alike caller registers b w) (parted b)
  taken_meant (store_act c p offset bytes) = refl
  taken_meant (mark_act i value) = refl

  -- and succeeds where it does
  succeeds_meant : (a : Act) → act_succeeds a b ≡ succeeds (meant a) (machine b)
  unfolding act_succeeds succeeds meant
  succeeds_meant (call_act caller registers) = succeeded_alike _ _ (door_alike caller registers b w)
  succeeds_meant (store_act c p offset bytes) = rw (store_told b w c p offset bytes)
  succeeds_meant (mark_act i value) = rw (mark_told b w i value)

-- ---- a list of acts

-- what comes of it is what comes of its steps
pub record Follows (done : List Act) (b : Buffers) : Type 0 where
  pub stays_sound : sound_bytes (acts done b) ≡ true
  pub reached : parted (acts done b) ≡ (run_steps (map meant done) (machine b)).lent
  pub given : over_acts act_given_back done b ≡ over_run given_back (map meant done) (machine b)
  pub taken : over_acts act_taken_in done b ≡ over_run taken_in (map meant done) (machine b)
  pub succeeded : all_acts_succeed done b ≡ all_succeed (map meant done) (machine b)

-- bytes that are a sound machine
pub sound_both : (b : Buffers) → sound_bytes b ≡ true → (well_sized b ≡ true) × (sound (parted b) ≡ true)
unfolding sound_bytes
sound_both b e = (and-eq-true_iff (well_sized b) (sound (parted b))).0 e

module _ (kept : StaysSound) where
  -- an act leaves them sound, and leaves the machine that its step leaves
  pub act_agrees : (a : Act) (b : Buffers) → sound_bytes b ≡ true
      → (sound_bytes (act a b) ≡ true) × (parted (act a b) ≡ (step (meant a) (machine b)).lent)
  act_agrees a b e =
      let same = act_step b (sound_both b e).0 a in
      let agreed = step_agrees kept (meant a) b e in
      (ap sound_bytes same ∙ agreed.0, ap parted same ∙ agreed.1)

  -- so do many
  pub follows : (done : List Act) (b : Buffers) → sound_bytes b ≡ true → Follows done b
  unfolding acts run_steps over_acts over_run all_acts_succeed all_succeed
  follows [] b e = record { stays_sound = e; reached = refl; given = refl; taken = refl; succeeded = refl }
  follows (a ∷ more) b e =
      let w = (sound_both b e).0 in
      let one = act_agrees a b e in
      let rest = follows more (act a b) one.0 in
      let same : machine (act a b) ≡ step (meant a) (machine b) = λ i. record { lent = one.1 i } in
      let ss = map meant more in
      record {
        stays_sound = rest.stays_sound;
        reached = rest.reached ∙ ap (λ m. (run_steps ss m).lent) same;
        given = ap₂ ◌+◌ (given_meant b w a) (rest.given ∙ ap (over_run given_back ss) same);
        taken = ap₂ ◌+◌ (taken_meant b w a) (rest.taken ∙ ap (over_run taken_in ss) same);
        succeeded = ap₂ ◌&&◌ (succeeds_meant b w a) (rest.succeeded ∙ ap (all_succeed ss) same);
      }
