-- Fields written one behind the other are the discovery fields, laid out.
-- Assumes nothing.
use Rattle.std.proofs.Common.{◌≡◌, ℕ, ◌+◌, ◌<◌, List, [], ◌∷◌, ◌++◌, length, refl, arith, length-append}
use mathlib.Core.Path.{ap₂}
use native.Mathlib.Nat.{add_assoc}
use Rattle.std.proofs.lemmas.List.Edits.{sets}
use Rattle.rules.specs.Words.{little}
use Rattle.rules.specs.declared.Discovery.{Discovery}
use Rattle.rules.specs.Discovery.{discovery_bytes, fields_size}
use Rattle.laws.proofs.Numbers.{length_little}
use Rattle.laws.proofs.Widths.{sets_append}
use Rattle.laws.proofs.Chop.{sets_whole}

-- a byte written as two, and two zeros behind it
one_byte : (v : ℕ) → v < 256 → little 2 v ++ little 2 0 ≡ v ∷ 0 ∷ 0 ∷ 0 ∷ []
unfolding little
one_byte v small = ap₂ {B = List ℕ} ◌∷◌ (omega arith) (ap₂ {B = List ℕ} ◌∷◌ (omega arith) refl)

-- wherever the program says that each begins, and however it computes the last two numbers
pub in_a_row : (l : List ℕ) (at size area version vmpl rest v none : ℕ) (d : Discovery) → size ≡ at + 8 → area ≡ at + 16 → version ≡ at + 24 → vmpl ≡ at + 28 → rest ≡ at + 30
    → v ≡ d.vmpl → none ≡ 0 → d.vmpl < 256
    → sets (sets (sets (sets (sets (sets l at (little 8 d.base)) size (little 8 d.size)) area (little 8 d.area)) version (little 4 d.version)) vmpl (little 2 v)) rest (little 2 none)
    ≡ sets l at (discovery_bytes d)
unfolding discovery_bytes
in_a_row l at size area version vmpl rest v none d e f g h i j k small =
    rw (e, f, g, h, i, j, k, ← one_byte d.vmpl small) (simp (sets_append, length-append, length_little, add_assoc))

-- fields written over all that was lent for them
pub over_all : (l : List ℕ) (d : Discovery) → length l ≡ fields_size → sets l 0 (discovery_bytes d) ≡ discovery_bytes d
unfolding discovery_bytes fields_size little
over_all l d room = sets_whole l (discovery_bytes d) (omega arith)
