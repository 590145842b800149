-- Launch on flat bytes: where it is refused nothing changes, and where it is made the buffers are those whose parts are the new machine.
use mathlib.Core.Path.{◌≡◌}
use mathlib.Core.Bool.{true, false, ◌&&◌, ◌||◌, and-eq-true_iff}
use Prim.Native.Nat.{ℕ, ◌*◌, ◌+◌, ◌<◌}
use lib.Dec.{leb, ltb, eqb}
use borrow.Author.Tests.{leb-false, eq-eqb}
use lib.ListN.{length}
use Rattle.std.specs.Prelude.{Ok, Err}
use Rattle.rules.specs.Words.{record_size, records}
use Rattle.rules.specs.declared.Plan.{Plan}
use Rattle.rules.specs.declared.LaunchError.TheVariants.{WrongSize, OutOfRange, AreasMeet, UnfitVmsa}
use Rattle.rules.specs.Answers.{refuse}
use Rattle.rules.specs.Machine.{N, page_at}
use Rattle.rules.specs.Launch.{out_of_range, areas_meet, unfit_vmsa, made, launch}
use Rattle.rules.specs.Flat.{Buffers, parted, joined, memory_fits, memory_sized, sheet_sized, well_sized, launch_bytes}
use Rattle.laws.proofs.FlatSteps.{join_memory, join_sheet}
use Rattle.laws.proofs.Ranges.{or_false}

-- buffers of right size are the join of their parts
pub joined_parted : (b : Buffers) → well_sized b ≡ true → joined (parted b) ≡ b
unfolding joined parted well_sized
joined_parted b e =
    let both = (and-eq-true_iff (memory_sized b.table b.memory) (sheet_sized b.sheet)).0 e in
    λ i. record { memory = join_memory b.table b.memory both.0 i; table = b.table; sheet = join_sheet b.sheet both.1 i }

-- buffers as long as others of right size are of right size
pub same_sizes : (b a : Buffers) → length a.memory ≡ length b.memory → length a.table ≡ length b.table
    → length a.sheet ≡ length b.sheet → well_sized a ≡ well_sized b
unfolding well_sized memory_sized sheet_sized
same_sizes b a m t s = rw (m, t, s)

-- as the code tests it
pub well_sized_by : (b : Buffers) → memory_fits (length b.table) (length b.memory) ≡ true → length b.sheet ≡ record_size * records → well_sized b ≡ true
unfolding well_sized memory_sized sheet_sized
well_sized_by b fits s = rw (fits, eq-eqb _ (record_size * records) s)

-- a plan in range names pages below n
pub in_range : (plan : Plan) (n : ℕ) → out_of_range plan n ≡ false → (plan.vmsa < n) × (plan.calling < n)
unfolding out_of_range
in_range plan n e =
    let monitor = ltb n (plan.first + plan.count) in
    let vmsa = leb n plan.vmsa in
    let calling = leb n plan.calling in
    let four = (or_false (monitor || vmsa || calling || ltb n plan.valid) (eqb plan.count 0) e).0 in
    let three = (or_false (monitor || vmsa || calling) (ltb n plan.valid) four).0 in
    let two = or_false (monitor || vmsa) calling three in
    (leb-false n plan.vmsa (or_false monitor vmsa two.0).1, leb-false n plan.calling two.1)

module _ (n : ℕ) (plan : Plan) (b : Buffers) where
  pub launch_unsized : (well_sized b && eqb n (length b.table)) ≡ false → launch_bytes n plan b ≡ record { answer = Err WrongSize; after = b }
  unfolding launch_bytes refuse
  launch_unsized e = rw e

  module _ (sized : well_sized b ≡ true) (told : eqb n (length b.table) ≡ true) where
    pub launch_out_of_range : out_of_range plan (N (parted b)) ≡ true → launch_bytes n plan b ≡ record { answer = Err OutOfRange; after = b }
    unfolding launch_bytes launch refuse
    launch_out_of_range e = rw (sized, told, e, joined_parted b sized)

    module _ (within : out_of_range plan (N (parted b)) ≡ false) where
      pub launch_areas_meet : areas_meet plan ≡ true → launch_bytes n plan b ≡ record { answer = Err AreasMeet; after = b }
      unfolding launch_bytes launch refuse
      launch_areas_meet e = rw (sized, told, within, e, joined_parted b sized)

      module _ (apart : areas_meet plan ≡ false) where
        pub launch_unfit : unfit_vmsa (page_at (parted b) plan.vmsa) ≡ true → launch_bytes n plan b ≡ record { answer = Err UnfitVmsa; after = b }
        unfolding launch_bytes launch refuse
        launch_unfit e = rw (sized, told, within, apart, e, joined_parted b sized)

        pub launch_made : (a : Buffers) → unfit_vmsa (page_at (parted b) plan.vmsa) ≡ false
            → well_sized a ≡ true → parted a ≡ (made plan (parted b)).lent → launch_bytes n plan b ≡ record { answer = Ok tt; after = a }
        unfolding launch_bytes launch refuse
        launch_made a e s w = rw (sized, told, within, apart, e, ← w, joined_parted a s)
