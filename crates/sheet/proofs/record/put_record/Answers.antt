-- Four numbers of eight bytes are the record that is laid out.
use mathlib.Core.Path.{sym, ◌∙◌}
use Prim.Native.Nat.{◌<◌}
use lib.Dec.{lit≤, lit<}
use lib.ListN.{length}
use native.Mathlib.Omega.{arith}
use Rattle.rules.specs.Words.{records, record_size}
use Rattle.rules.specs.Machine.{laid_out}
use Rattle.rules.specs.Flat.{parts}
use Rattle.laws.proofs.Records.{length_laid_out}
use Rattle.laws.proofs.Parts.{length_row}
use Rattle.laws.proofs.Writes.{written_whole, record_written}
use Rattle.sheet.proofs.At.{field, rows_of}
use Rattle.sheet.proofs.record.put_record.Goals as goal

pub put_number-requires : goal.put_number-requires
put_number-requires c = field c.told-sheet c.requires (lit≤ tt)

pub put_number-requires-2 : goal.put_number-requires-2
put_number-requires-2 c = field (c.put_number.auto.s ∙ c.told-sheet) c.requires (lit≤ tt)

pub put_number-requires-3 : goal.put_number-requires-3
put_number-requires-3 c = field (c.put_number-2.auto.s ∙ c.put_number.auto.s ∙ c.told-sheet) c.requires (lit≤ tt)

pub put_number-requires-4 : goal.put_number-requires-4
put_number-requires-4 c = field (c.put_number-3.auto.s ∙ c.put_number-2.auto.s ∙ c.put_number.auto.s ∙ c.told-sheet) c.requires (lit≤ tt)

pub returns : goal.returns
unfolding record_size records
returns c =
    let v = c.args.v in
    let sheet = c.args.sheet.now in let rows = parts record_size sheet in let i = c.args.i in
    let h : i < length rows = omega (arith, rows_of sheet c.told-sheet, c.requires) in
    rw (c.put_number-4.ensures, c.put_number-3.ensures, c.put_number-2.ensures, c.put_number.ensures)
    (rw (c.join8-3.ensures, c.join8-2.ensures, c.join8.ensures, c.join4-marks.ensures)
    (record_written rows i h v ∙ written_whole rows i h (laid_out v) (length_laid_out v ∙ sym (length_row record_size sheet i (lit< tt) h))))
