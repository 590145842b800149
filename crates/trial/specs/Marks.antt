-- The mark that the trial's map has for a page, by its table byte: a letter only where the byte is right for its owner.
use Rattle.std.specs.Prelude.{ℕ, Bool, cond, ◌&&◌, ◌||◌, [], ◌∷◌, ◌==◌, nat_le, slice_index_or}
use Rattle.rules.specs.Words.{bits}
use Rattle.rules.specs.Machine.{owner, plain, vmsa_area, valid}
use Rattle.rules.specs.Sound.{well_permitted}

-- "Bit 7 is 0"; "6 and 7 don't occur"; "Pages that aren't plain are valid"; and the permissions, where the startup's VMPL is 1
unfoldable pub right : ℕ → Bool
right b = bits 7 7 b == 0 && nat_le (owner b) vmsa_area && (owner b == plain || valid b) && well_permitted 1 b

-- "?", and of a plain page by bits 6:4: "." for none; "1", "2" and "3" for VMPL 1, for 1 and 2, and for all three
unfoldable pub unknown : ℕ
unknown = 63

unfoldable pub plain_letter : ℕ → ℕ
plain_letter b = slice_index_or (46 ∷ 49 ∷ unknown ∷ 50 ∷ unknown ∷ unknown ∷ unknown ∷ 51 ∷ []) (bits 6 4 b) unknown

-- of the other owners, from 1 to 5: "C", "M", "f", "u", "V"
unfoldable pub letter : ℕ → ℕ
letter b = slice_index_or (plain_letter b ∷ 67 ∷ 77 ∷ 102 ∷ 117 ∷ 86 ∷ []) (owner b) unknown

unfoldable pub mark_of : ℕ → ℕ
mark_of b = cond (right b) (letter b) unknown
