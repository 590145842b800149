-- Each byte of the number is the byte that was given.
use Rattle.std.proofs.Common.{◌≡◌, ℕ, ◌+◌, ◌*◌, ◌<◌, List, [], ◌∷◌, refl, arith}
use mathlib.Core.Path.{ap₂}
use Rattle.rules.specs.Words.{little}
use Rattle.words.proofs.join4.Goals as goal

four : (a b d e : ℕ) → a < 256 → b < 256 → d < 256 → e < 256 → little 4 (a + 256 * b + 65536 * d + 16777216 * e) ≡ a ∷ b ∷ d ∷ e ∷ []
unfolding little
four a b d e ha hb hd he =
    ap₂ {B = List ℕ} ◌∷◌ (omega arith) (ap₂ {B = List ℕ} ◌∷◌ (omega arith) (ap₂ {B = List ℕ} ◌∷◌ (omega arith) (ap₂ {B = List ℕ} ◌∷◌ (omega arith) refl)))

pub returns : goal.returns
returns c = four _ _ _ _ (omega arith) (omega arith) (omega arith) (omega arith)
