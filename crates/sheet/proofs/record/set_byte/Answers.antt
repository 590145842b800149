use native.Mathlib.Omega.{arith}
use Rattle.rules.specs.Words.{record_size}
use Rattle.sheet.proofs.At.{field}
use Rattle.sheet.proofs.record.set_byte.Goals as goal

pub put_byte-requires : goal.put_byte-requires
unfolding record_size
put_byte-requires c = field c.told-sheet c.requires.0 (omega (arith, c.requires.1))
