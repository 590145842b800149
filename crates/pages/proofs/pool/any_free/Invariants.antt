-- The loop's invariant: what was found is found among the pages passed.
use mathlib.Core.Path.{◌≡◌}
use lib.ListN.{take}
use Rattle.rules.specs.Words.{exists}
use Rattle.rules.specs.Calls.{is_free}
use Rattle.pages.proofs.pool.any_free.Given as goal

abbrev pub invariant-loop-b : goal.invariant-loop-b
invariant-loop-b l = l.found ≡ exists is_free (take l.b-index l.table)
