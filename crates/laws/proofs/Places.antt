-- Laws of the library's `position`: it is the rules' `lowest`, where by their `exists` there is one.
use mathlib.Core.Path.{◌≡◌, refl, sym, ◌∙◌}
use mathlib.Core.Bool.{Bool, cond}
use mathlib.Core.List.{List}
use native.Mathlib.Omega.{arith}
use lib.ListN.{length}
use borrow.Author.Tests.{ltb-false}
use Rattle.std.specs.Prelude.{Some, None, position, unwrap_or}
use Rattle.std.specs.List.{position_or_len}
use Rattle.std.proofs.Common.{one-add}
use Rattle.std.proofs.lemmas.List.Recursion.{is_position_or_len}
use Rattle.rules.specs.Words.{lowest, exists}
use Rattle.laws.proofs.Ranges.{by_test, lowest_le, exists_lowest}

module _ {A : Type 0} (test : A → Bool) where
  counted : (xs : List A) → lowest test xs ≡ position_or_len test xs
  unfolding lowest
  counted = is_position_or_len (lowest test) test refl (λ x xs. rw one-add)

  pub placed : (xs : List A) → position test xs ≡ cond (exists test xs) (Some (lowest test xs)) None
  placed xs = rw (exists_lowest test xs, counted xs)

  -- where none passes, the length stands for the place
  pub place_or_length : (xs : List A) → unwrap_or (position test xs) (length xs) ≡ lowest test xs
  place_or_length xs =
      by_test (exists test xs)
      (λ t. rw (placed xs, t))
      (λ t. rw (placed xs, t) (omega (arith, lowest_le test xs, ltb-false (lowest test xs) (length xs) (sym (exists_lowest test xs) ∙ t))))
