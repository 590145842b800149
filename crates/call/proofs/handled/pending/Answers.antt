-- The caller's calling page is one of memory's.
use native.Mathlib.Omega.{arith}
use Rattle.rules.specs.Words.{page_size}
use Rattle.rules.specs.Flat.{buffers}
use Rattle.laws.proofs.Tested.{caller_below, caller_names, pages_tested}
use Rattle.pages.proofs.Within.{in_page}
use Rattle.call.proofs.handled.pending.Goals as goal

pub vcpu-requires : goal.vcpu-requires
vcpu-requires c = caller_below _ _ c.requires

pub byte-requires : goal.byte-requires
unfolding page_size
byte-requires c =
    let b = buffers c.args.memory.now c.args.table.now c.args.sheet.now in
    in_page c.args.memory.now _ 0 1 (rw (c.vcpu.ensures, pages_tested b c.args.caller c.requires) (caller_names b c.args.caller c.requires).calling) (omega arith)
