use Rattle.std.proofs.Common.{add-one, arith}
use Rattle.rules.specs.Words.{number}
use Rattle.words.proofs.U16Little.read.Goals as goal

pub returns : goal.returns
unfolding number
returns c = omega (arith, c.from.ensures, rw add-one at c.from-2.ensures)
