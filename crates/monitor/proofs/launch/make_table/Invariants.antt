-- The loop's invariant: what was passed is launch's, the rest as it was.
use mathlib.Core.Path.{◌≡◌}
use mathlib.Core.List.{map, ◌++◌}
use lib.ListN.{drop}
use Rattle.rules.specs.Words.{range}
use Rattle.rules.specs.Launch.{launch_byte}
use Rattle.monitor.proofs.launch.make_table.Given as goal

abbrev pub invariant-loop-p : goal.invariant-loop-p
invariant-loop-p l = l.table ≡ map (launch_byte l.plan) (range 0 l.p) ++ drop l.p l.initial.table
