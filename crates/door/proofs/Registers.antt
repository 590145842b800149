-- Registers written one after the other, eight bytes each, are their bytes.
use mathlib.Core.Path.{◌≡◌, refl, sym, ◌∙◌}
use mathlib.Core.List.{List, [], ◌∷◌, ◌++◌}
use Prim.Native.Nat.{ℕ, ◌*◌}
use native.Mathlib.Nat.{zero-add}
use native.Mathlib.Omega.{arith}
use lib.ListN.{length, length-append}
use lib.Seq.{sets}
use Rattle.rules.specs.Words.{little}
use Rattle.laws.proofs.Chop.{sets_whole}
use Rattle.laws.proofs.Numbers.{length_little}
use Rattle.laws.proofs.Widths.{sets_append}

-- the bytes of registers, the last one first
unfoldable pub bytes_of : List ℕ → List ℕ
bytes_of [] = []
bytes_of (x ∷ xs) = bytes_of xs ++ little 8 x

length_bytes_of : (xs : List ℕ) → length (bytes_of xs) ≡ 8 * length xs
unfolding bytes_of
length_bytes_of [] = refl
length_bytes_of (x ∷ xs) = omega (arith, length-append (bytes_of xs) (little 8 x), length_little 8 x, length_bytes_of xs)

infixl 20 ◌then◌
-- what is there is what was there after stores of these registers, one behind the other
pub data Front (was : List ℕ) : List ℕ → List ℕ → Type 0 where
  none : Front was [] was
  ◌then◌ : {xs there after : List ℕ} {x : ℕ} → Front was xs there → after ≡ sets there (8 * length xs) (little 8 x) → Front was (x ∷ xs) after

written : {was xs there : List ℕ} → Front was xs there → there ≡ sets was 0 (bytes_of xs)
unfolding bytes_of
written none = refl
written (◌then◌ {xs = xs} {x = x} front stored) = rw (stored, written front, sets_append _ 0 (bytes_of xs) (little 8 x), length_bytes_of xs, zero-add)

pub all : {was xs there : List ℕ} → Front was xs there → length was ≡ 8 * length xs → there ≡ bytes_of xs
all {was = was} {xs = xs} front sized = written front ∙ sets_whole was (bytes_of xs) (length_bytes_of xs ∙ sym sized)
