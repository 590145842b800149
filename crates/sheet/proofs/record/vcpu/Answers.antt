-- Each field is a place in the record.
use lib.Dec.{lit≤}
use Rattle.sheet.proofs.At.{field}
use Rattle.sheet.proofs.record.vcpu.Goals as goal

pub byte-requires : goal.byte-requires
byte-requires c = field c.told-sheet c.requires (lit≤ tt)

pub byte-requires-2 : goal.byte-requires-2
byte-requires-2 c = field c.told-sheet c.requires (lit≤ tt)

pub byte-requires-3 : goal.byte-requires-3
byte-requires-3 c = field c.told-sheet c.requires (lit≤ tt)

pub byte-requires-4 : goal.byte-requires-4
byte-requires-4 c = field c.told-sheet c.requires (lit≤ tt)

pub number-requires : goal.number-requires
number-requires c = field c.told-sheet c.requires (lit≤ tt)

pub number-requires-2 : goal.number-requires-2
number-requires-2 c = field c.told-sheet c.requires (lit≤ tt)

pub number-requires-3 : goal.number-requires-3
number-requires-3 c = field c.told-sheet c.requires (lit≤ tt)

pub number-requires-4 : goal.number-requires-4
number-requires-4 c = field c.told-sheet c.requires (lit≤ tt)

pub number-requires-5 : goal.number-requires-5
number-requires-5 c = field c.told-sheet c.requires (lit≤ tt)

pub number-requires-6 : goal.number-requires-6
number-requires-6 c = field c.told-sheet c.requires (lit≤ tt)
