-- Two numbers of 4 bytes are one of 8.
use Rattle.std.proofs.Common.{sym}
use Rattle.laws.proofs.Widths.{number_add}
use Rattle.words.proofs.U64Little.read.Goals as goal

pub returns : goal.returns
returns c = rw (c.from.ensures, c.from-2.ensures, c.read.ensures, c.read-2.ensures) (sym (number_add 4 4 _ _))
