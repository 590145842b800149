-- The loop's invariant: of the pages passed the free ones are given.
use Rattle.withdraw_call.specs.Given.{free_below, Given}
use Rattle.withdraw_call.proofs.give_pages.Given as goal

abbrev pub invariant-loop-p : goal.invariant-loop-p
invariant-loop-p l = Given l.list (free_below l.p l.initial.table) l.initial.memory l.initial.table l.memory l.table l.taken
