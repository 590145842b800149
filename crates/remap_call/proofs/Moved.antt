-- What Remap does to a machine, part by part.
-- Assumes nothing.
use mathlib.Core.Path.{◌≡◌}
use mathlib.Core.Bool.{cond}
use mathlib.Core.List.{[], ◌∷◌}
use Prim.Native.Nat.{ℕ}
use lib.Dec.{eqb}
use Rattle.rules.specs.Words.{little}
use Rattle.rules.specs.Machine.{Lent, own, plain, calling_area, amend, record_at, write, with_memory, written}
use Rattle.rules.specs.Calls.{remapped}
use Rattle.laws.specs.Revised.{revise}
use Rattle.laws.proofs.Change.{change_table, change_memory, change_sheet}
use Rattle.laws.proofs.Ranges.{by_test}

pub moved : (caller old new : ℕ) (m : Lent)
    → remapped caller old new m
    ≡ record {
      memory = written new 0 (0 ∷ []) (written old 0 (0 ∷ []) m.memory);
      table = revise (own calling_area) 0 new (cond (eqb old new) m.table (revise (own plain) 0 old m.table));
      sheet = written caller 12 (little 4 new) m.sheet;
    }
unfolding remapped amend record_at write with_memory written
moved caller old new m =
    by_test (eqb old new)
    (λ t. rw t (simp (change_table, change_memory, change_sheet)))
    (λ t. rw t (simp (change_table, change_memory, change_sheet)))
