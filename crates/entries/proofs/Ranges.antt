-- The pages that an entry covers, one after the other; and how many of them pass a test, as the library's sum over a part of the table.
-- Assumes nothing.
use mathlib.Core.Path.{◌≡◌, refl, sym, ◌∙◌}
use mathlib.Core.Bool.{Bool, true, cond, ◌&&◌, and-true}
use mathlib.Core.List.{List, [], ◌∷◌}
use Prim.Native.Nat.{ℕ, zero, suc, ◌+◌, ◌-◌, ◌≤◌}
use native.Mathlib.Omega.{arith}
use lib.ListN.{length, get_or, take, drop}
use lib.Seq.{drop-cons}
use Rattle.std.specs.List.{sum_by}
use Rattle.std.proofs.lemmas.List.Recursion.{is_sum_by}
use Rattle.rules.specs.Words.{range, every, count}
use Rattle.laws.proofs.Ranges.{length_range, range_snoc, every_append}
use Rattle.laws.proofs.Counts.{count_cons, count_le_length}

module _ (test : ℕ → Bool) (first : ℕ) where
  pub none_yet : every test (range first (first - first)) ≡ true
  unfolding every range
  none_yet = let none : first - first ≡ 0 = omega arith in rw none

  pub one_more : (p : ℕ) → first ≤ p → every test (range first (p + 1 - first)) ≡ (every test (range first (p - first)) && test p)
  unfolding every
  one_more p h =
      let one : p + 1 - first ≡ suc (p - first) = omega arith in
      let last : first + (p - first) ≡ p = omega arith in
      rw (one, range_snoc first (p - first), every_append test (range first (p - first)) ((first + (p - first)) ∷ []), last) (simp and-true)

module _ (test : ℕ → Bool) (table : List ℕ) where
  -- a part of the table
  part_is : (first n : ℕ) → first + n ≤ length table → count test (take n (drop first table)) ≡ count (λ p. test (get_or table p 0)) (range first n)
  unfolding range count
  part_is first zero h = refl
  part_is first (suc n) h = rw (drop-cons table first 0 (omega arith), part_is (suc first) n (omega arith))

  -- one is added for each that passes
  pub sum_of_part : (first n : ℕ) → first + n ≤ length table
      → sum_by (λ b. cond (test b) 1 0) (take n (drop first table)) ≡ count (λ p. test (get_or table p 0)) (range first n)
  unfolding count
  sum_of_part first n h =
      sym (is_sum_by (count test) (λ b. cond (test b) 1 0) refl (count_cons test) (take n (drop first table))) ∙ part_is first n h

  -- which is no more than there are
  pub sum_within : (first n : ℕ) → first + n ≤ length table → sum_by (λ b. cond (test b) 1 0) (take n (drop first table)) ≤ n
  sum_within first n h =
      omega (arith, sum_of_part first n h, count_le_length (λ p. test (get_or table p 0)) (range first n), length_range first n)
