-- The loop's invariant: whether each page passed may be covered.
use mathlib.Core.Path.{◌≡◌}
use Prim.Native.Nat.{◌-◌, ◌*◌}
use Rattle.rules.specs.Words.{page_size, range, every}
use Rattle.rules.specs.Lists.{coverable}
use Rattle.laws.specs.Alone.{table_alone}
use Rattle.entries.proofs.covered.all_coverable.Given as goal

abbrev pub invariant-loop-p : goal.invariant-loop-p
invariant-loop-p l = l.all ≡ every (coverable l.vmpl (page_size * l.list) (table_alone l.table)) (range l.first (l.p - l.first))
