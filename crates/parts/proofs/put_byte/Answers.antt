-- A byte written in a part is written in the slice.
use Rattle.laws.proofs.Parts.{parts_written}
use Rattle.parts.proofs.put_byte.Goals as goal

pub returns : goal.returns
returns c = rw c.start-at.ensures.is (parts_written _ _ _ _ _ c.requires.below c.requires.within)
