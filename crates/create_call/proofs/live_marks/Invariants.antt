-- The loop's invariant: the marks of the records passed are gathered.
use mathlib.Core.Path.{◌≡◌}
use lib.ListN.{take}
use Rattle.rules.specs.Words.{record_size}
use Rattle.rules.specs.Machine.{is_live}
use Rattle.rules.specs.Flat.{parts}
use Rattle.laws.specs.Marks.{marks}
use Rattle.create_call.proofs.live_marks.Given as goal

abbrev pub invariant-loop-i : goal.invariant-loop-i
invariant-loop-i l = l.marks ≡ marks is_live (take l.i (parts record_size l.sheet))
