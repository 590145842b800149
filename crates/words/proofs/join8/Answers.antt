-- The bytes of a number made of two halves are those of the halves.
use Rattle.std.proofs.Common.{arith}
use Rattle.laws.proofs.Widths.{little_pair}
use Rattle.words.proofs.join8.Goals as goal

pub returns : goal.returns
returns c = little_pair 4 _ _ (omega arith)
