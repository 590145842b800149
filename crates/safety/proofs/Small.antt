-- Small laws of tests and of lists, which every part of these proofs uses.
use mathlib.Core.Path.{◌≡◌, refl, sym, ◌∙◌, ap}
use mathlib.Core.Bool.{Bool, true, false, not, ◌&&◌, true≢false, and-eq-true_iff}
use mathlib.Core.List.{List, [], ◌∷◌}
use Prim.Native.Nat.{ℕ, zero, suc, ◌<◌, ◌≤◌}
use native.Mathlib.Omega.{arith}
use lib.Dec.{eqb}
use lib.ListN.{length, get_or, set}
use borrow.Author.Tests.{eqb-true, eqb-false, ltb-true, ne_eqb}
use Rattle.rules.specs.Words.{every, exists, count}
use Rattle.laws.proofs.Ranges.{by_test, →exists, →absent, Rising, none, more}
use Rattle.laws.proofs.Counts.{one, count_cons, exists_count, count_none}

-- ---- tests

-- of two tests that do not both pass, the second fails if the first passes
pub and_false→ : (a b : Bool) → (a && b) ≡ false → a ≡ true → b ≡ false
and_false→ true b e t = e
and_false→ false b e t = absurd (true≢false (sym t))

-- and back again
pub implied : (a b : Bool) → (a ≡ true → b ≡ false) → (a && b) ≡ false
implied true b f = f refl
implied false b f = refl

-- of two tests that do not both fail, the first passes if the second fails
pub one_holds : (a b : Bool) → (not a && not b) ≡ false → b ≡ false → a ≡ true
one_holds true b e f = refl
one_holds false true e f = absurd (true≢false f)
one_holds false false e f = absurd (true≢false e)

-- a test that can't pass fails
pub fails : (a : Bool) → (a ≡ true → ⊥) → a ≡ false
fails true f = absurd (f refl)
fails false f = refl

-- two numbers that differ, the other way round
pub flip : (p q : ℕ) → eqb p q ≡ false → eqb q p ≡ false
flip p q e = ne_eqb q p (λ h. eqb-false p q e (sym h))

-- ---- lists

-- a list of no elements
pub empty : {A : Type 0} (xs : List A) → length xs ≡ 0 → xs ≡ []
empty [] e = refl
empty (x ∷ xs) e = absurd (omega arith)

-- a list of some
pub inhabited : {A : Type 0} (test : A → Bool) (xs : List A) → exists test xs ≡ true → 0 < length xs
unfolding exists
inhabited test [] e = absurd (true≢false (sym e))
inhabited test (x ∷ xs) e = omega arith

-- one element set to one that passes too
pub every_set : {A : Type 0} (test : A → Bool) (xs : List A) (i : ℕ) (y : A) → every test xs ≡ true → (i < length xs → test y ≡ true)
    → every test (set xs i y) ≡ true
unfolding every
every_set test [] i y e f = refl
every_set test (x ∷ xs) zero y e f = rw (f (omega arith)) ((and-eq-true_iff (test x) (every test xs)).0 e).1
every_set test (x ∷ xs) (suc i) y e f =
    let both = (and-eq-true_iff (test x) (every test xs)).0 e in
    rw both.0 (every_set test xs i y both.1 (λ h. f (omega arith)))

-- a weaker test
pub every_weaker : {A : Type 0} (f g : A → Bool) (xs : List A) → ((x : A) → f x ≡ true → g x ≡ true) → every f xs ≡ true → every g xs ≡ true
unfolding every
every_weaker f g [] h e = refl
every_weaker f g (x ∷ xs) h e =
    let both = (and-eq-true_iff (f x) (every f xs)).0 e in
    rw (h x both.0, every_weaker f g xs h both.1)

-- tests that agree from low on pass alike over a list that rises from there
pub every_agree : (test test' : ℕ → Bool) {low high : ℕ} {ps : List ℕ} → Rising low high ps → ((p : ℕ) → low ≤ p → test p ≡ test' p)
    → every test ps ≡ every test' ps
unfolding every
every_agree test test' none e = refl
every_agree test test' (more p a b r) e = rw (e p a, every_agree test test' r (λ q h. e q (omega arith)))

-- each fails where none passes
pub every_not_exists : {A : Type 0} (test : A → Bool) (xs : List A) → every (λ x. not (test x)) xs ≡ not (exists test xs)
unfolding every exists
every_not_exists test [] = refl
every_not_exists test (x ∷ xs) = by_test (test x) (λ t. rw t) (λ t. rw t (every_not_exists test xs))

-- a number that fails a test that all of a list pass is not in it
pub not_among : (test : ℕ → Bool) (p : ℕ) (qs : List ℕ) → every test qs ≡ true → test p ≡ false → exists (eqb p) qs ≡ false
unfolding every exists
not_among test p [] e f = refl
not_among test p (q ∷ qs) e f =
    let both = (and-eq-true_iff (test q) (every test qs)).0 e in
    by_test (eqb p q) (λ t. absurd (true≢false (sym both.0 ∙ rw (← eqb-true p q t) f))) (λ t. rw t (not_among test p qs both.1 f))

-- and what is in it passes
pub among : (test : ℕ → Bool) (p : ℕ) (qs : List ℕ) → every test qs ≡ true → exists (eqb p) qs ≡ true → test p ≡ true
among test p qs e h = by_test (test p) (λ t. t) (λ t. absurd (true≢false (sym h ∙ not_among test p qs e t)))

-- ---- counts

module _ {A : Type 0} (test : A → Bool) where
  -- one that passes is counted
  pub counted : (xs : List A) (i : ℕ) (d : A) → i < length xs → test (get_or xs i d) ≡ true → 0 < count test xs
  counted xs i d h e = ltb-true 0 (count test xs) (sym (exists_count test xs) ∙ →exists test xs i d h e)

  -- where at most one is counted, two places that pass are the same
  pub counted_once : (xs : List A) (d : A) → count test xs ≤ 1
      → (i j : ℕ) → i < length xs → j < length xs → test (get_or xs i d) ≡ true → test (get_or xs j d) ≡ true → i ≡ j
  counted_once [] d c i j h k e f = absurd (omega arith)
  counted_once (x ∷ xs) d c zero zero h k e f = refl
  counted_once (x ∷ xs) d c zero (suc j) h k e f = absurd (omega (arith, count_cons test x xs, ap one e, counted xs j d (omega arith) f))
  counted_once (x ∷ xs) d c (suc i) zero h k e f = absurd (omega (arith, count_cons test x xs, ap one f, counted xs i d (omega arith) e))
  counted_once (x ∷ xs) d c (suc i) (suc j) h k e f =
      ap suc (counted_once xs d (omega (arith, count_cons test x xs)) i j (omega arith) (omega arith) e f)

  -- and the reverse
  pub once_counted : (xs : List A) (d : A)
      → ((i j : ℕ) → i < length xs → j < length xs → test (get_or xs i d) ≡ true → test (get_or xs j d) ≡ true → i ≡ j) → count test xs ≤ 1
  unfolding count
  once_counted [] d f = omega arith
  once_counted (x ∷ xs) d f =
      let rest = once_counted xs d (λ i j h k a b. omega (arith, f (suc i) (suc j) (omega arith) (omega arith) a b)) in
      by_test (test x)
      (λ t.
      let none : count test xs ≡ 0
      = count_none test xs (→absent test xs d (λ i h. fails (test (get_or xs i d)) (λ e. omega (arith, f 0 (suc i) (omega arith) (omega arith) t e)))) in
      rw t (omega arith))
      (λ t. rw t rest)
