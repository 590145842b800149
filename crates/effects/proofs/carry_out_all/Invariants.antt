-- The loop's invariant: the pages passed are carried out, and the lengths are as they were.
use mathlib.Core.Path.{◌≡◌}
use Prim.Native.Nat.{◌-◌}
use lib.ListN.{length}
use Rattle.rules.specs.Lists.{carry_out_all}
use Rattle.laws.specs.Alone.{without_sheet}
use Rattle.effects.proofs.carry_out_all.Given as goal

abbrev pub invariant-loop-p : goal.invariant-loop-p
invariant-loop-p l = record {
  done : carry_out_all l.entry.wish l.vmpl l.entry.first (l.p - l.entry.first) (without_sheet l.initial.memory l.initial.table) ≡ without_sheet l.memory l.table;
  table : length l.table ≡ length l.initial.table;
  memory : length l.memory ≡ length l.initial.memory;
}
