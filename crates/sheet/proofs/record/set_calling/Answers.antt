use lib.Dec.{lit≤}
use Rattle.sheet.proofs.At.{field}
use Rattle.sheet.proofs.record.set_calling.Goals as goal

pub put_number-requires : goal.put_number-requires
put_number-requires c = field c.told-sheet c.requires (lit≤ tt)
