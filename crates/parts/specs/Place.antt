-- What a function that reads or writes in a part is told: the part is one of the slice's, and the bytes are within it.
use Rattle.std.specs.Prelude.{ℕ, ◌+◌, ◌<◌, ◌≤◌, List, length}
use Rattle.rules.specs.Flat.{parts}

pub record Place (l : List ℕ) (size p offset width : ℕ) : Type 0 where
  pub some : 0 < size
  pub below : p < length (parts size l)
  pub within : offset + width ≤ size
