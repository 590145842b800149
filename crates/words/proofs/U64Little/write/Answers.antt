-- Two numbers of 4 bytes, written in a row, are one of 8.
use Rattle.std.proofs.Common.{◌∙◌}
use Rattle.laws.proofs.Widths.{sets_halves}
use Rattle.words.proofs.U64Little.write.Goals as goal

pub returns : goal.returns
returns c = c.write-2.ensures ∙ rw c.write.ensures (sets_halves 4 _ _ _)
