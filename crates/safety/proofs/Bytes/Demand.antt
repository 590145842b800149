-- Demand 3 whole, of the bytes that a host holds, from its parts on machines: each act is a step of the machine that the bytes are.
use mathlib.Core.Path.{◌≡◌, refl, sym, ◌∙◌, ap, ap₂}
use mathlib.Core.Bool.{true}
use mathlib.Core.List.{List, [], ◌∷◌, map}
use Prim.Native.Nat.{ℕ, zero, suc, ◌+◌, ◌*◌, ◌^◌, ◌<◌}
use native.Mathlib.Omega.{arith}
use Rattle.std.specs.Prelude.{Ok}
use Rattle.rules.specs.Words.{page_size, most_pages, records}
use Rattle.rules.specs.declared.Registers.{Registers}
use Rattle.rules.specs.Answers.{launched_number}
use Rattle.rules.specs.Machine.{Lent, N, startup}
use Rattle.rules.specs.Flat.{Buffers, parted, sound_bytes, register_bytes, launch_bytes}
use Rattle.rules.specs.Runs.{Step, calls, stores, pool}
use Rattle.safety.specs.Terms.{rounds, asking, withdrawals, Recovered, Act, call_act, acts, act_given_back, over_acts, all_acts_succeed, withdrawal_acts}
use Rattle.safety.specs.Statements.{KeptBy, Holds, Demand3, LaunchedSound, StaysSound, MonitorKept, VmsaKept, PoolKept, RunCounted, AllComeBack}
use Rattle.safety.specs.Determined.{ToldApart, AnswersToldApart}
use Rattle.safety.proofs.Numbers.{answers_told_apart}
use Rattle.safety.proofs.Sound.Facts.{Sound, open_sound}
use Rattle.safety.proofs.Sound.Sizes.{few_pages, Sized, sizes_of}
use Rattle.safety.proofs.Sound.Said.{said}
use Rattle.safety.proofs.Keeping.{run_keeps}
use Rattle.safety.proofs.Sound.Rows.{startup_lives, calling_below}
use Rattle.safety.proofs.Kept.Sealed.{sealed_now}
use Rattle.safety.proofs.Pool.InUse.{at_most}
use Rattle.safety.proofs.Bytes.Sizes.{each_sized_call}
use Rattle.safety.proofs.Bytes.Steps.{launch_sound, launch_empty, launch_size}
use Rattle.safety.proofs.Bytes.Door.{cut, length_registers, asking_back, asks_as}
use Rattle.safety.proofs.Bytes.Acts.{meant, machine, deletes_meant, gives_back_meant, sound_both, act_agrees, follows}

-- ---- the rounds that bring the free pages back

-- RCX of a Withdraw by the startup fits its eight bytes
asked_fits : (m : Lent) → Sound m → page_size * (startup m).calling + 8 < 256 ^ 8
unfolding startup page_size most_pages records
asked_fits m s = omega (arith, calling_below m s 0 (omega arith) (startup_lives m s), few_pages m s.tables)

-- the Withdraw, as register bytes
asked_meant : (m : Lent) (g : Registers) → page_size * (startup m).calling + 8 < 256 ^ 8
    → meant (call_act 0 (register_bytes (asking m g))) ≡ calls 0 (asking m (cut g))
unfolding meant asks_as
asked_meant m g h = rw (length_registers, asking_back m g h)

-- the rounds as acts are the rounds as steps
rounds_meant : (n : ℕ) (others : ℕ → Registers) (m : Lent) → page_size * (startup m).calling + 8 < 256 ^ 8
    → map meant (withdrawal_acts n others m) ≡ withdrawals n (λ k. cut (others k)) m
unfolding withdrawal_acts withdrawals meant
rounds_meant zero others m h = refl
rounds_meant (suc n) others m h =
    let stored = stores (startup m).vmpl (startup m).calling 0 (1 ∷ []) in
    ap₂ {C = List Step} (λ s ss. stored ∷ s ∷ ss) (asked_meant m (others n) h) (rounds_meant n others m h)

-- ---- what holds of the bytes

-- the parts of demand 3 on machines, but for what a single sound machine shows
pub record Parts : Type 0 where
  pub launched : LaunchedSound
  pub stays_sound : StaysSound
  pub monitor_kept : MonitorKept
  pub vmsa_kept : VmsaKept
  pub pool_kept : PoolKept
  pub run_counted : RunCounted
  pub come_back : AllComeBack

module _ (parts : Parts) where
  -- what an act keeps of sound bytes
  kept_by : (a : Act) (b : Buffers) → sound_bytes b ≡ true → KeptBy a b
  unfolding MonitorKept VmsaKept PoolKept
  kept_by a b e =
      let both = sound_both b e in
      let after = (act_agrees parts.stays_sound a b e).1 in
      record {
        monitor_pages = λ p o. rw after (parts.monitor_kept (meant a) (machine b) both.1 p o);
        vmsa_pages = λ p o d. rw after (parts.vmsa_kept (meant a) (machine b) both.1 p o (sym (deletes_meant b both.0 p a) ∙ d));
        pool_pages = λ p o d. rw after (parts.pool_kept (meant a) (machine b) both.1 p o (sym (gives_back_meant b both.0 p a) ∙ d));
      }

  -- how the free pages of sound bytes come back
  come_back : (others : ℕ → Registers) (b : Buffers) → sound_bytes b ≡ true →
      let ways = withdrawal_acts (rounds (parted b)) others (parted b) in
      Recovered (all_acts_succeed ways b) (over_acts act_given_back ways b) (parted b) (parted (acts ways b))
  unfolding AllComeBack
  come_back others b e =
      let ways = withdrawal_acts (rounds (parted b)) others (parted b) in
      let fine = (sound_both b e).1 in
      let same = rounds_meant (rounds (parted b)) others (parted b) (asked_fits (parted b) (open_sound (parted b) fine)) in
      let go = follows parts.stays_sound ways b e in
      rw (go.succeeded, go.given, go.reached, same) (parts.come_back (machine b) (λ k. cut (others k)) fine)

  module _ (n : ℕ) (start : Buffers) (e : sound_bytes start ≡ true) (count : N (parted start) ≡ n) (empty : pool (parted start) ≡ 0) (done : List Act) where
    -- all of it, from sound bytes with an empty pool
    holds : Holds n start done
    unfolding RunCounted N parted
    holds =
        let go = follows parts.stays_sound done start e in
        let now = sound_both (acts done start) go.stays_sound in
        let open_now = open_sound (parted (acts done start)) now.1 in
        let sizes = sizes_of (open_sound (parted start) (sound_both start e).1) in
        record {
          size = ap N go.reached ∙ (run_keeps (Sized (N (parted start))) (each_sized_call _) (map meant done) (machine start) sizes).number ∙ count;
          sized = now.0;
          sound = said (parted (acts done start)) open_now;
          sealed = sealed_now (parted (acts done start)) now.1;
          kept = λ next. kept_by next (acts done start) go.stays_sound;
          counted = rw go.reached (omega (arith, go.given, go.taken, empty, parts.run_counted (map meant done) (machine start) (sound_both start e).1));
          at_most = omega (arith, at_most (parted (acts done start)) now.1);
          come_back = λ others. come_back others (acts done start) go.stays_sound;
        }

  -- demand 3
  pub demand_3_by : Demand3
  unfolding Demand3 AnswersToldApart ToldApart launched_number
  demand_3_by n plan lent answered done =
      let made = answers_told_apart.2 (launch_bytes n plan lent).answer (Ok tt) answered in
      holds n (launch_bytes n plan lent).after (launch_sound parts.launched n plan lent made) (launch_size parts.launched n plan lent made)
      (launch_empty parts.launched n plan lent made) done
