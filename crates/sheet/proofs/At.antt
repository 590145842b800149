-- A field of a record is a place in the sheet.
-- Assumes nothing.
use mathlib.Core.Path.{◌≡◌, ◌∙◌}
use Prim.Native.Nat.{ℕ, ◌+◌, ◌*◌, ◌<◌, ◌≤◌}
use mathlib.Core.List.{List}
use native.Mathlib.Omega.{arith}
use lib.ListN.{length}
use lib.Dec.{lit<}
use Rattle.rules.specs.Words.{records, record_size}
use Rattle.rules.specs.Flat.{parts}
use Rattle.laws.proofs.Parts.{length_parts}
use Rattle.parts.specs.Place.{Place}
use Rattle.sheet.specs.declared.TheConstants.{RECORD_SIZE, SHEET_SIZE}

-- a sheet of right size has its records
pub rows_of : (sheet : List ℕ) → length sheet ≡ record_size * records → length (parts record_size sheet) ≡ records
unfolding records record_size
rows_of sheet e = length_parts record_size sheet ∙ omega arith

-- any field of any record, in a sheet whose size is in its type
pub field : {sheet : List ℕ} {i o w : ℕ} → length sheet ≡ SHEET_SIZE → i < records → o + w ≤ RECORD_SIZE → Place sheet RECORD_SIZE i o w
unfolding record_size records
field {sheet} {i} {o} {w} e h fits = record { some = lit< tt; below = omega (arith, rows_of sheet e, h); within = fits }
