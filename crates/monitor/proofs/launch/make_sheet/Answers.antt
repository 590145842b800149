-- Zeros, and record 0 over them.
use mathlib.Core.Path.{◌∙◌, ap}
use lib.Dec.{lit<}
use Rattle.rules.specs.Words.{records, record_size}
use Rattle.rules.specs.Machine.{zeros}
use Rattle.rules.specs.Flat.{parts}
use Rattle.laws.proofs.Parts.{parts_zeros}
use Rattle.monitor.proofs.launch.make_sheet.Goals as goal

pub returns : goal.returns
unfolding records record_size zeros
returns c =
    c.put_record.ensures
    ∙ rw (ap (parts record_size) (c.fill.ensures.after (λ y e. e) ∙ ap zeros c.told-sheet) ∙ parts_zeros records record_size (lit< tt))
