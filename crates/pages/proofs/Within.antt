-- A page ends within memory.
-- Assumes nothing.
use Prim.Native.Nat.{ℕ, ◌+◌, ◌*◌, ◌<◌, ◌≤◌}
use mathlib.Core.List.{List}
use lib.ListN.{length}
use lib.Dec.{lit<}
use Rattle.rules.specs.Words.{page_size}
use Rattle.rules.specs.Flat.{parts}
use Rattle.parts.specs.Place.{Place}
use Rattle.laws.proofs.Parts.{part_within}

pub positive : 0 < page_size
unfolding page_size
positive = lit< tt

pub page_ends : (memory : List ℕ) (page : ℕ) → page < length (parts page_size memory) → page_size * page + page_size ≤ length memory
page_ends memory page h = part_within page_size memory page positive h

-- a field of a page
pub in_page : (memory : List ℕ) (page offset width : ℕ) → page < length (parts page_size memory) → offset + width ≤ page_size
    → Place memory page_size page offset width
in_page memory page offset width h w = record { some = positive; below = h; within = w }
