use Rattle.std.proofs.Common.{arith}
use Rattle.rules.specs.Words.{page_size}
use Rattle.machine.proofs.Placed.{placed}
use Rattle.machine.proofs.held.Machine.byte.Goals as goal

pub byte-requires : goal.byte-requires
unfolding page_size
byte-requires c = placed c.args.self.now _ _ _ c.requires.0 (omega arith)
