-- What the answer of launch's checks, of which none looks at the sheet, says of the whole launch.
-- Assumes nothing.
use mathlib.Core.Path.{◌≡◌}
use mathlib.Core.Bool.{true, false}
use Prim.Native.Nat.{ℕ}
use lib.Dec.{eqb}
use lib.ListN.{length}
use Rattle.std.specs.Prelude.{Ok, Err}
use Rattle.rules.specs.declared.Plan.{Plan}
use Rattle.rules.specs.declared.LaunchError.{LaunchError}
use Rattle.rules.specs.Answers.{refuse}
use Rattle.rules.specs.Machine.{machine_of, N, page_at}
use Rattle.rules.specs.Launch.{out_of_range, areas_meet, unfit_vmsa, launch}
use Rattle.rules.specs.Flat.{Buffers, parted, well_sized, launch_bytes}
use Rattle.laws.specs.Alone.{without_sheet}
use Rattle.laws.proofs.Ranges.{by_test}
use Rattle.laws.proofs.FlatLaunch.{launch_out_of_range, launch_areas_meet, launch_unfit}

module _ (plan : Plan) (b : Buffers) where
  -- they refuse: everything is as it was
  pub refused : (n : ℕ) (why : LaunchError) → well_sized b ≡ true → eqb n (length b.table) ≡ true
      → Err why ≡ (launch plan (machine_of (without_sheet b.memory b.table))).answer → launch_bytes n plan b ≡ record { answer = Err why; after = b }
  unfolding launch refuse N page_at parted
  refused n why sized told e =
      by_test (out_of_range plan (length b.table)) (λ r. rw (rw r at e) (launch_out_of_range n plan b sized told r))
      (λ r. by_test (areas_meet plan) (λ a. rw (rw (r, a) at e) (launch_areas_meet n plan b sized told r a))
      (λ a. by_test (unfit_vmsa (page_at (parted b) plan.vmsa)) (λ u. rw (rw (r, a, u) at e) (launch_unfit n plan b sized told r a u))
      (λ u. cc)))

  -- they pass
  pub passed : Ok tt ≡ (launch plan (machine_of (without_sheet b.memory b.table))).answer
      → (out_of_range plan (length b.table) ≡ false) × (areas_meet plan ≡ false) × (unfit_vmsa (page_at (parted b) plan.vmsa) ≡ false)
  unfolding launch refuse N page_at parted
  passed e =
      by_test (out_of_range plan (length b.table)) (λ r. cc)
      (λ r. by_test (areas_meet plan) (λ a. cc)
      (λ a. by_test (unfit_vmsa (page_at (parted b) plan.vmsa)) (λ u. cc) (λ u. (r, a, u))))
