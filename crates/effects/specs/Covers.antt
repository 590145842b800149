-- What a caller of the effects shows of the pages.
use Rattle.std.specs.Prelude.{ℕ, ◌+◌, ◌≤◌, ◌≡◌, List, length}
use Rattle.rules.specs.Words.{page_size}
use Rattle.rules.specs.Flat.{parts}

-- there are `count` pages from `first` on, and memory has a page for each byte of the table
pub record Covers (memory table : List ℕ) (first count : ℕ) : Type 0 where
  pub within : first + count ≤ length table
  pub pages : length (parts page_size memory) ≡ length table
