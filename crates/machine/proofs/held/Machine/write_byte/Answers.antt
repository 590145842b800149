use Rattle.std.proofs.Common.{arith}
use Rattle.rules.specs.Words.{page_size}
use Rattle.machine.proofs.Placed.{placed}
use Rattle.machine.proofs.held.Machine.write_byte.Goals as goal

pub put_byte-requires : goal.put_byte-requires
unfolding page_size
put_byte-requires c = placed c.args.self.now _ _ _ c.requires.0 (omega arith)
