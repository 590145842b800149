-- The loop's invariant: what is left of the run, from the machine as it is now, ends as the whole run from the start.
use mathlib.Core.Path.{◌≡◌}
use Prim.Native.Nat.{◌-◌}
use lib.ListN.{length}
use Rattle.rules.specs.Lists.{run}
use Rattle.rules.specs.Flat.{buffers, parted}
use Rattle.list_calls.proofs.List.run.Given as goal

abbrev pub invariant-loop-k : goal.invariant-loop-k
invariant-loop-k l = record {
  left : run l.self.call l.self.caller l.self.gpa.0 l.todo l.start (parted (buffers l.initial.memory l.initial.table l.sheet))
      ≡ run l.self.call l.self.caller l.self.gpa.0 (l.end - l.k) l.k (parted (buffers l.memory l.table l.sheet));
  memory : length l.memory ≡ length l.initial.memory;
  table : length l.table ≡ length l.initial.table;
}
