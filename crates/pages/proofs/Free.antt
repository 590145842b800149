-- A walk over the table: one page more.
-- Assumes nothing.
use mathlib.Core.Path.{◌≡◌}
use mathlib.Core.Bool.{Bool, ◌||◌, or-false}
use mathlib.Core.List.{List, [], ◌∷◌}
use Prim.Native.Nat.{ℕ, ◌+◌, ◌<◌}
use native.Mathlib.Numerals.{add-one}
use lib.ListN.{length, get_or, take}
use lib.Seq.{take-suc}
use Rattle.rules.specs.Words.{exists}
use Rattle.laws.proofs.Ranges.{exists_append}

pub one_more : (test : ℕ → Bool) (xs : List ℕ) (i d : ℕ) → i < length xs → exists test (take (i + 1) xs) ≡ (exists test (take i xs) || test (get_or xs i d))
unfolding exists
one_more test xs i d h = rw (add-one, take-suc xs i d h, exists_append test (take i xs) (get_or xs i d ∷ [])) (simp or-false)
