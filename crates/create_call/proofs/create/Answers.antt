-- What the tests have shown: the caller's record is one of the sheet's, and memory has a page for each byte of the table.
use Rattle.rules.specs.Flat.{memory_sized}
use Rattle.laws.proofs.FlatSteps.{sizes}
use Rattle.laws.proofs.Tested.{caller_below, pages_tested, memory_tested}
use Rattle.create_call.proofs.create.Goals as goal

pub vcpu-caller_vmpl-requires : goal.vcpu-caller_vmpl-requires
vcpu-caller_vmpl-requires c = caller_below _ _ c.requires

pub check_vcpu-requires : goal.check_vcpu-requires
check_vcpu-requires c = rw (pages_tested _ _ c.requires) c.in_ok-vmsa.ensures.below.0

pub make-requires-clause-sized : goal.make-requires-clause-sized
unfolding memory_sized
make-requires-clause-sized c = memory_tested _ _ c.requires

pub make-requires-clause-fit : goal.make-requires-clause-fit
unfolding memory_sized
make-requires-clause-fit c =
    let below = c.in_ok-vmsa.ensures.below in
    record { most = (sizes _ _ (memory_tested _ _ c.requires)).most; vmsa = below.0; calling = below.1; in_use = c.in_ok-pool.ensures.below }
