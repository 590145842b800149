-- Laws of a list's marks as one number, over the list's length and the number's width: how they are gathered, element after element, and
-- that the trailing zeros of their inverse are as many as the elements before the lowest that fails the test.
use mathlib.Core.Path.{◌≡◌, refl, ap}
use mathlib.Core.Bool.{Bool, true, false, cond, not}
use mathlib.Core.List.{List, [], ◌∷◌}
use Prim.Native.Nat.{ℕ, zero, suc, ◌+◌, ◌-◌, ◌*◌, ◌/◌, ◌%◌, ◌^◌, ◌<◌, ◌≤◌}
use native.Mathlib.Omega.{arith}
use native.Mathlib.Nat.{pow-suc, le_of_eq}
use native.Mathlib.Numerals.{add-one}
use lib.Bits.{bit_or, or_shifted_r}
use lib.Count.{count_trailing_zeros}
use lib.Dec.{lit<}
use lib.ListN.{length, get_or, take}
use lib.Pow.{pow_pos, shl_exact}
use lib.Seq.{length-take-le}
use Rattle.rules.specs.Words.{lowest}
use Rattle.laws.specs.Marks.{marks}
use Rattle.laws.proofs.Counts.{one_le}
use Rattle.laws.proofs.Ranges.{by_test}

module _ {A : Type 0} (test : A → Bool) where
  -- a number as wide as the list holds them
  marks_lt : (k : ℕ) (xs : List A) → length xs ≤ k → marks test xs < 2 ^ k
  unfolding marks
  marks_lt k [] h = pow_pos k
  marks_lt zero (x ∷ xs) h = absurd (omega arith)
  marks_lt (suc k) (x ∷ xs) h = omega (arith, pow-suc 2 k, one_le (test x), marks_lt k xs (omega arith))

  -- one element more: its mark stands above those before it
  marks_more : (xs : List A) (i : ℕ) (d : A) → i < length xs
      → marks test (take (suc i) xs) ≡ cond (test (get_or xs i d)) (2 ^ i) 0 + marks test (take i xs)
  unfolding marks
  marks_more [] i d h = absurd (omega arith)
  marks_more (x ∷ xs) zero d h = refl
  marks_more (x ∷ xs) (suc i) d h =
      let rest = marks_more xs i d (omega arith) in
      by_test (test (get_or xs i d)) (λ t. rw t (omega (arith, pow-suc 2 i, rw t at rest))) (λ t. rw t (omega (arith, rw t at rest)))

  -- gathered in a number of w bits: the bit of an element that passes is set, that of one that fails is left
  module _ (xs : List A) (i : ℕ) (d : A) (h : i < length xs) where
    pub marks_set : (w : ℕ) → i < w → test (get_or xs i d) ≡ true → bit_or (marks test (take i xs)) ((1 * 2 ^ i) % 2 ^ w) ≡ marks test (take (i + 1) xs)
    marks_set w in_width t =
        let below : marks test (take i xs) < 2 ^ i = marks_lt i (take i xs) (le_of_eq (length-take-le i xs (omega arith))) in
        rw (shl_exact {a = 1} 1 i w (lit< tt) (omega arith), or_shifted_r 1 i (marks test (take i xs)) below, add-one i)
        (omega (arith, rw t at (marks_more xs i d h)))

    pub marks_left : test (get_or xs i d) ≡ false → marks test (take i xs) ≡ marks test (take (i + 1) xs)
    marks_left t = rw (add-one i) (omega (arith, rw t at (marks_more xs i d h)))

  -- the free marks: where all of the list's elements pass, the lowest bit that is set is the first above them, or none is
  pub trailing_marks : (k : ℕ) (xs : List A) → length xs ≤ k → count_trailing_zeros k ((2 ^ k - 1) - marks test xs) ≡ lowest (λ x. not (test x)) xs
  unfolding marks lowest count_trailing_zeros
  trailing_marks zero [] h = refl
  trailing_marks zero (x ∷ xs) h = absurd (omega arith)
  trailing_marks (suc k) [] h = let odd : ((2 ^ suc k - 1) - 0) % 2 ≡ 1 = omega (arith, pow-suc 2 k, pow_pos k) in rw odd
  trailing_marks (suc k) (x ∷ xs) h =
      let m = marks test xs in
      let fits : m < 2 ^ k = marks_lt k xs (omega arith) in
      let even : ((2 ^ suc k - 1) - (1 + 2 * m)) % 2 ≡ 0 = omega (arith, pow-suc 2 k) in
      let rest : ((2 ^ suc k - 1) - (1 + 2 * m)) / 2 ≡ (2 ^ k - 1) - m = omega (arith, pow-suc 2 k) in
      let odd : ((2 ^ suc k - 1) - (0 + 2 * m)) % 2 ≡ 1 = omega (arith, pow-suc 2 k) in
      by_test (test x) (λ t. rw (t, even, rest) (ap suc (trailing_marks k xs (omega arith)))) (λ t. rw (t, odd))
