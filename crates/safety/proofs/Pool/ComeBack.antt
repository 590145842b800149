-- Statement 6: with enough rounds, each a store and a Withdraw by the startup vCPU, all free pages of the pool come back.
use mathlib.Core.Path.{◌≡◌, refl, sym, ◌∙◌, ap}
use mathlib.Core.Logic.{inl, inr}
use mathlib.Core.Bool.{true}
use mathlib.Core.List.{List, [], ◌∷◌}
use Prim.Native.Nat.{ℕ, zero, suc, ◌+◌, ◌-◌, ◌*◌, ◌<◌, ◌≤◌}
use native.Mathlib.Omega.{arith}
use lib.ListN.{get_or}
use borrow.Author.Tests.{eq-eqb, ltb-true}
use Rattle.rules.specs.Words.{page_size, records, count}
use Rattle.rules.specs.declared.Registers.{Registers}
use Rattle.rules.specs.declared.Outcome.TheVariants.{Handled}
use Rattle.rules.specs.Answers.{outcome_number, verdict_number}
use Rattle.rules.specs.Machine.{Lent, Machine, with_lent, with_memory, N, write, owner, valid, permitted, table_byte, is_live, record_at, startup}
use Rattle.rules.specs.Lists.{in_list}
use Rattle.rules.specs.Calls.{is_free}
use Rattle.rules.specs.Call.{with_rax}
use Rattle.rules.specs.Runs.{Step, calls, stores, called, step, run_steps, asks_for, handled_as, given_by, given_back, over_run}
use Rattle.laws.proofs.Ranges.{→exists}
use Rattle.laws.proofs.Counts.{exists_count}
use Rattle.safety.specs.Terms.{free, rounds, asking, withdrawals, succeeded_by, succeeds, all_succeed}
use Rattle.safety.specs.Statements.{AllComeBack}
use Rattle.safety.proofs.Effects.{same_startup}
use Rattle.safety.proofs.Sound.Facts.{Sound, open_sound}
use Rattle.safety.proofs.Sound.Rows.{startup_lives}
use Rattle.safety.proofs.Elsewhere.{kept_page}
use Rattle.safety.proofs.Kept.Fates.{Owned}
use Rattle.safety.proofs.Pool.BackCall.{asks_withdraw, ended, stored, called_done}
use Rattle.safety.proofs.Pool.BackRound.{Turning, Round, round_twice, round_here, ended_round, stored_round, count_told, store_waits}
use Rattle.safety.proofs.Pool.BackRound.{write_sheet, pool_inside, fewer_free, left_free}

-- the machine in which the startup's call is pending
unfoldable pub waiting : Lent → Lent
waiting m = write (startup m).calling 0 (1 ∷ []) m

-- as many free pages
waiting_free : (m : Lent) → free (waiting m) ≡ free m
unfolding waiting free write with_memory
waiting_free m = refl

waiting_startup : (m : Lent) → startup (waiting m) ≡ startup m
unfolding waiting
waiting_startup m = same_startup m _ (write_sheet (startup m).calling 0 (1 ∷ []) m)

-- the registers go by the startup's calling page
asking_same : (m m' : Lent) (g : Registers) → startup m' ≡ startup m → asking m' g ≡ asking m g
unfolding asking
asking_same m m' g e = rw e

-- where the count of free pages is 0, no page is free
none_left : (m : Lent) (p : ℕ) → free m ≡ 0 → owner (table_byte m p) ≡ 3 → ⊥
unfolding free table_byte is_free N
none_left m p e o =
    let some = →exists is_free m.table p 0 (pool_inside m p o) (eq-eqb (owner (get_or m.table p 0)) 3 o) in
    omega (arith, e, ltb-true 0 (count is_free m.table) (sym (exists_count is_free m.table) ∙ some))

-- a page that no longer waits has come back
came_back : (c b : ℕ) → (owner b ≡ 3 → ⊥) → Turning c b → (owner b ≡ 0) × (valid b ≡ true) × (permitted c b ≡ true)
unfolding Turning
came_back c b n (inl e) = absurd (n e)
came_back c b n (inr h) = (h.owned, h.validity, h.permission)

waits : (c b : ℕ) → owner b ≡ 3 → Turning c b
unfolding Turning
waits c b e = inl e

-- what n rounds have done, with these steps
pub record Rounds (n : ℕ) (ss : List Step) (m : Lent) : Type 0 where
  pub succeeded : all_succeed ss (record { lent = m }) ≡ true
  pub counted : free (run_steps ss (record { lent = m })).lent + over_run given_back ss (record { lent = m }) ≡ free m
  pub left : free (run_steps ss (record { lent = m })).lent ≡ free m - 510 * n
  pub round : Round m (run_steps ss (record { lent = m })).lent

module _ (owned : (m : Lent) → Sound m → (i : ℕ) → i < records → is_live (record_at m i) ≡ true → Owned i m) where
  mine : (m : Lent) → Sound m → owner (table_byte m (startup m).calling) ≡ 1
  unfolding startup records
  mine m s = (owned m s 0 (omega arith) (startup_lives m s)).calling

  -- ---- one round

  module _ (m : Lent) (s : Sound m) where
    abbrev storing : Step
    storing = stores (startup m).vmpl (startup m).calling 0 (1 ∷ [])

    store_step : step storing (record { lent = m }) ≡ record { lent = waiting m }
    unfolding step with_lent waiting
    store_step = rw (stored m s (mine m s))

    store_succeeds : succeeds storing (record { lent = m }) ≡ true
    unfolding succeeds verdict_number
    store_succeeds = rw (stored m s (mine m s))

    waits_round : Round m (waiting m)
    unfolding waiting
    waits_round = stored_round m s (mine m s)

    module _ (g : Registers) where
      abbrev asks : Step
      asks = calls 0 (asking m g)

      call_told : called 0 (asking m g) (record { lent = waiting m })
          ≡ record { answer = Handled; after = record { registers = with_rax 0 (asking m g); machine = record { lent = ended (waiting m) } } }
      unfolding waiting
      call_told =
          let now = waits_round.still_sound in
          rw (← asking_same m (waiting m) g (waiting_startup m))
          (called_done (waiting m) now (mine (waiting m) now) g (store_waits m s (mine m s)))

      call_step : step asks (record { lent = waiting m }) ≡ record { lent = ended (waiting m) }
      unfolding step
      call_step = ap (λ a. a.after.machine) call_told

      call_succeeds : succeeds asks (record { lent = waiting m }) ≡ true
      unfolding succeeds succeeded_by outcome_number with_rax
      call_succeeds = rw call_told

      call_gives : given_back asks (record { lent = waiting m }) ≡ in_list 2 0 (page_size * (startup m).calling + 8) (ended (waiting m))
      unfolding given_back given_by handled_as asks_for outcome_number with_rax asking
      call_gives = rw (call_told, (asks_withdraw m g).0, (asks_withdraw m g).1)

      -- the pages that are given back are free no more
      call_counts : free (ended (waiting m)) + given_back asks (record { lent = waiting m }) ≡ free m
      call_counts =
          let w = waiting m in
          let now = waits_round.still_sound in
          let told = count_told w now (mine w now) in
          let same = ap (λ v. in_list 2 0 (page_size * v.calling + 8) (ended w)) (waiting_startup m) in
          omega (arith, call_gives, same, told, fewer_free w, waiting_free m)

    -- 510 fewer than before, or none
    call_leaves : free (ended (waiting m)) ≡ free m - 510
    call_leaves = left_free (waiting m) ∙ ap (λ (n : ℕ). n - 510) (waiting_free m)

    call_round : Round m (ended (waiting m))
    call_round =
        let now = waits_round.still_sound in
        round_twice waits_round (ended_round (waiting m) now (mine (waiting m) now))

  -- ---- one round more

  module _ (m : Lent) (s : Sound m) (g : Registers) (n : ℕ) (ss : List Step) (rest : Rounds n ss (ended (waiting m))) where
    abbrev M : Machine
    M = record { lent = m }

    abbrev all : List Step
    all = storing m s ∷ asks m s g ∷ ss

    runs : run_steps all M ≡ run_steps ss (record { lent = ended (waiting m) })
    unfolding run_steps
    runs = ap (λ x. run_steps ss (step (asks m s g) x)) (store_step m s) ∙ ap (run_steps ss) (call_step m s g)

    all_succeeded : all_succeed all M ≡ true
    unfolding all_succeed
    all_succeeded = rw (store_succeeds m s, store_step m s, call_succeeds m s g, call_step m s g) rest.succeeded

    gives : over_run given_back all M
        ≡ given_back (storing m s) M
        + (given_back (asks m s g) (record { lent = waiting m }) + over_run given_back ss (record { lent = ended (waiting m) }))
    unfolding over_run
    gives = rw (store_step m s, call_step m s g)

    store_gives : given_back (storing m s) M ≡ 0
    unfolding given_back
    store_gives = refl

    all_counted : free (run_steps all M).lent + over_run given_back all M ≡ free m
    all_counted = rw runs (omega (arith, gives, store_gives, call_counts m s g, rest.counted))

    all_left : free (run_steps all M).lent ≡ free m - 510 * suc n
    all_left = rw runs (omega (arith, rest.left, call_leaves m s))

    one_more : Rounds (suc n) all m
    one_more =
        record {
          succeeded = all_succeeded;
          counted = all_counted;
          left = all_left;
          round = rw runs (round_twice (call_round m s) rest.round);
        }

  -- the rounds of `withdrawals`, for a machine with the same startup record
  withdrawals_more : (n : ℕ) (others : ℕ → Registers) (m₀ m : Lent) (s : Sound m) → startup m₀ ≡ startup m
      → withdrawals (suc n) others m₀ ≡ storing m s ∷ asks m s (others n) ∷ withdrawals n others m₀
  unfolding withdrawals asking
  withdrawals_more n others m₀ m s e = rw e

  no_round : (others : ℕ → Registers) (m₀ m : Lent) → Sound m → Rounds zero (withdrawals zero others m₀) m
  unfolding withdrawals run_steps all_succeed over_run
  no_round others m₀ m s = record { succeeded = refl; counted = omega arith; left = omega arith; round = round_here s }

  rounds_done : (n : ℕ) (others : ℕ → Registers) (m₀ m : Lent) (s : Sound m) → startup m₀ ≡ startup m → Rounds n (withdrawals n others m₀) m
  rounds_done zero others m₀ m s e = no_round others m₀ m s
  rounds_done (suc n) others m₀ m s e =
      let first = call_round m s in
      let after = ended (waiting m) in
      rw (withdrawals_more n others m₀ m s e)
      (one_more m s (others n) n (withdrawals n others m₀)
      (rounds_done n others m₀ after first.still_sound (e ∙ sym (same_startup m after first.sheet))))

  -- ---- the statement

  -- 510 pages a round are enough for all that are free
  enough_rounds : (m : Lent) → free m ≤ 510 * rounds m
  unfolding rounds
  enough_rounds m = omega arith

  -- statement 6
  pub all_come_back_by : AllComeBack
  unfolding AllComeBack
  all_come_back_by m others e =
      let n = rounds m.lent in
      let s = open_sound m.lent e in
      let done = rounds_done n others m.lent m.lent s refl in
      let c = (startup m.lent).vmpl in
      let after = (run_steps (withdrawals n others m.lent) m).lent in
      let none : free after ≡ 0 = omega (arith, done.left, enough_rounds m.lent) in
      record {
        succeeded = done.succeeded;
        counted = omega (arith, done.counted, none);
        none_free = none;
        in_use_kept = λ p o. kept_page (done.round.in_use p o);
        given = λ p o. came_back c _ (none_left after p none) (done.round.turns p (waits c _ o));
      }
