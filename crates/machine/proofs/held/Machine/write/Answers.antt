use Rattle.std.proofs.Common.{arith}
use Rattle.rules.specs.Words.{page_size}
use Rattle.machine.proofs.Placed.{placed}
use Rattle.machine.proofs.held.Machine.write.Goals as goal

pub put_number-requires : goal.put_number-requires
unfolding page_size
put_number-requires g c = placed c.args.self.now _ _ _ c.requires.0 (omega arith)
