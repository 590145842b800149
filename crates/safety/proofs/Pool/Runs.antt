-- Statement 4 over a run, and from launch, where the pool is empty. That steps and launch give sound machines is asked for here, as statements 1 and 0 say it.
use mathlib.Core.Path.{◌≡◌, refl, ◌∙◌}
use mathlib.Core.Bool.{true, false}
use mathlib.Core.List.{List, [], ◌∷◌, map}
use Prim.Native.Nat.{ℕ, ◌+◌}
use native.Mathlib.Omega.{arith}
use lib.Dec.{ltb, eqb}
use Rattle.std.specs.Prelude.{Ok}
use Rattle.rules.specs.Words.{range, count, bits}
use Rattle.rules.specs.declared.Plan.{Plan}
use Rattle.rules.specs.Machine.{Lent, Machine, N, owner}
use Rattle.rules.specs.Sound.{table_sized, pages_sized, sound}
use Rattle.rules.specs.Launch.{in_monitor, launch_byte, launch_table, made, launch}
use Rattle.rules.specs.Runs.{Step, step, run_steps, in_pool, pool, taken_in, given_back, over_run}
use Rattle.laws.proofs.Ranges.{by_test}
use Rattle.safety.proofs.Checks.{launch_made}
use Rattle.safety.proofs.Pool.Counts.{pool_counts, pool_write}
use Rattle.safety.proofs.Pool.Steps.{step_counted}

-- ---- a run

-- statement 4 of a run, if runs stay sound
pub run_counted_by : ((steps : List Step) (m : Machine) → sound m.lent ≡ true → sound (run_steps steps m).lent ≡ true)
    → (ss : List Step) (m : Machine) → sound m.lent ≡ true
    → pool (run_steps ss m).lent + over_run given_back ss m ≡ pool m.lent + over_run taken_in ss m
unfolding run_steps over_run
run_counted_by stays [] m sound_m = refl
run_counted_by stays (s ∷ ss) m sound_m =
    omega (arith, step_counted s m sound_m, run_counted_by stays ss (step s m) (stays (s ∷ []) m sound_m))

-- ---- launch

launched_out : (plan : Plan) (p : ℕ) → in_pool (launch_byte plan p) ≡ false
unfolding launch_byte in_pool owner bits
launched_out plan p =
    by_test (in_monitor plan p) (λ t. rw t)
    (λ t. rw t
    (by_test (eqb p plan.vmsa) (λ u. rw u)
    (λ u. rw u
    (by_test (eqb p plan.calling) (λ v. rw v)
    (λ v. rw v (by_test (ltb p plan.valid) (λ w. rw w) (λ w. rw w)))))))

launched_none : (plan : Plan) (ps : List ℕ) → count in_pool (map (launch_byte plan) ps) ≡ 0
unfolding count
launched_none plan [] = refl
launched_none plan (p ∷ ps) = rw (launched_out plan p) (launched_none plan ps)

made_empty : (plan : Plan) (m : Lent) → pool (made plan m).lent ≡ 0
unfolding made launch_table
made_empty plan m = pool_write _ _ _ _ ∙ pool_counts _ ∙ launched_none plan (range 0 (N m))

-- a machine that launch made has no pool
pub launched_empty : (plan : Plan) (m : Machine) → (launch plan m).answer ≡ Ok tt → pool (launch plan m).after.lent ≡ 0
launched_empty plan m e = rw (launch_made plan m e).after (made_empty plan m.lent)

-- statement 4 from launch, if runs stay sound and launch gives a sound machine
pub counted_from_launch_by : ((steps : List Step) (m : Machine) → sound m.lent ≡ true → sound (run_steps steps m).lent ≡ true)
    → ((plan : Plan) (m : Machine) → table_sized m.lent ≡ true → pages_sized m.lent ≡ true → (launch plan m).answer ≡ Ok tt
    → sound (launch plan m).after.lent ≡ true)
    → (plan : Plan) (m : Machine) (ss : List Step) → table_sized m.lent ≡ true → pages_sized m.lent ≡ true → (launch plan m).answer ≡ Ok tt
    → pool (run_steps ss (launch plan m).after).lent + over_run given_back ss (launch plan m).after ≡ over_run taken_in ss (launch plan m).after
counted_from_launch_by stays launched plan m ss t p e =
    omega (arith, run_counted_by stays ss (launch plan m).after (launched plan m t p e), launched_empty plan m e)
