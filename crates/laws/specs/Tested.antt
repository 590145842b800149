-- What the tests of outcome 3 have shown of a machine, once they are passed: what the inner functions of a call are told.
use Rattle.std.specs.Prelude.{◌≡◌, true, false, List, ℕ, ◌<◌, ◌≤◌}
use Rattle.rules.specs.Machine.{fields, holds}
use Rattle.rules.specs.Call.{bad_machine}
use Rattle.rules.specs.Flat.{Buffers, parted, well_sized}

-- what a call is told: the sizes are right, and the sheet holds nothing that outcome 3 names
pub record Tested (b : Buffers) (caller : ℕ) : Type 0 where
  pub sized : well_sized b ≡ true
  pub shape : bad_machine caller (parted b) ≡ false

-- what a live record names
pub record Names (n : ℕ) (r : List ℕ) : Type 0 where
  pub least : 1 ≤ (fields r).vmpl
  pub most : (fields r).vmpl ≤ 3
  pub vmsa : (fields r).vmsa < n
  pub calling : (fields r).calling < n
  pub pool : holds r ≡ true → (fields r).pool < n
