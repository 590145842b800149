-- A place in a part is a place in the slice.
-- Assumes nothing.
use Prim.Native.Nat.{ℕ, ◌+◌, ◌*◌, ◌≤◌}
use mathlib.Core.List.{List}
use native.Mathlib.Omega.{arith}
use lib.ListN.{length}
use Rattle.laws.proofs.Parts.{part_within}
use Rattle.parts.specs.Place.{Place}

pub place_ends : {l : List ℕ} {size p offset width : ℕ} → Place l size p offset width → size * p + offset + width ≤ length l
place_ends {l} {size} {p} at = omega (arith, part_within size l p at.some at.below, at.within)
