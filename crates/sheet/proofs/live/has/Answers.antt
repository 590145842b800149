-- The field is a place in the record.
use Rattle.rules.specs.Words.{record_size}
use Rattle.sheet.proofs.At.{field}
use Rattle.sheet.proofs.live.has.Goals as goal

pub number-held-requires : goal.number-held-requires
unfolding record_size
number-held-requires c = field c.told-sheet c.requires.0 (rw c.in-Field.is at c.requires.1)
