-- Laws of ranges, of rising lists of numbers, and of what is looked for in a list: every, exists, lowest, places and each, over the
-- list's length.
use mathlib.Core.Path.{◌≡◌, refl, sym, ◌∙◌, ap}
use mathlib.Core.Bool.{Bool, true, false, ◌&&◌, ◌||◌, and-eq-true_iff, true≢false}
use mathlib.Core.List.{List, [], ◌∷◌, ◌++◌, map, map-append}
use Prim.Native.Nat.{ℕ, zero, suc, ◌+◌, ◌-◌, ◌<◌, ◌≤◌}
use native.Mathlib.Omega.{arith}
use native.Mathlib.Numerals.{add-one}
use native.Mathlib.Nat.{zero-add, suc-add, add-zero, add-suc}
use borrow.Author.Tests.{lt-ltb, le-ltb, ltb-true, ltb-false, eq-eqb, ne_eqb}
use lib.Dec.{ltb, eqb, leb-suc-suc}
use lib.ListN.{length, get_or, take, drop, set, take-append-drop, length-map}
use lib.Seq.{drop-cons, set_at, append_snoc}
use Rattle.rules.specs.Words.{range, every, exists, count, lowest, places, each}

-- a test passes or fails, and the proof of each case may use which: `by_test (test x) (λ t. rw t ..) (λ t. rw t ..)`
pub by_test : {C : Type 0} (b : Bool) → (b ≡ true → C) → (b ≡ false → C) → C
by_test true passes fails = passes refl
by_test false passes fails = fails refl

-- two tests that come out alike are one
pub same_test : (a b : Bool) → (a ≡ true → b ≡ true) → (a ≡ false → b ≡ false) → a ≡ b
same_test true b passes fails = sym (passes refl)
same_test false b passes fails = sym (fails refl)

-- where neither of two tests passes, each fails
pub or_false : (a b : Bool) → (a || b) ≡ false → (a ≡ false) × (b ≡ false)
or_false true b e = absurd (true≢false e)
or_false false b e = (refl, e)

-- ---- range

-- the n numbers are n
pub length_range : (first n : ℕ) → length (range first n) ≡ n
unfolding range
length_range first zero = refl
length_range first (suc n) = ap suc (length_range (suc first) n)

-- number i of the range
pub getD_range : (first n i d : ℕ) → i < n → get_or (range first n) i d ≡ first + i
unfolding range
getD_range first zero i d h = absurd (omega arith)
getD_range first (suc n) zero d h = omega arith
getD_range first (suc n) (suc i) d h = omega (arith, getD_range (suc first) n i d (omega arith))

-- a range is its first m numbers, then the n after them
pub range_append : (first m n : ℕ) → range first (m + n) ≡ range first m ++ range (first + m) n
unfolding range
range_append first zero n = rw (zero-add, add-zero)
range_append first (suc m) n = simp (suc-add, add-suc, range_append (suc first) m n)

-- one number more
pub range_snoc : (first n : ℕ) → range first (suc n) ≡ range first n ++ ((first + n) ∷ [])
unfolding range
range_snoc first n = ap (range first) (sym (add-one n)) ∙ range_append first n 1

-- ---- lists in which a test looks for elements

module _ {A : Type 0} (test : A → Bool) where
  -- every: then each element passes
  pub every→ : (xs : List A) (i : ℕ) (d : A) → every test xs ≡ true → i < length xs → test (get_or xs i d) ≡ true
  unfolding every
  every→ [] i d e h = absurd (omega arith)
  every→ (x ∷ xs) zero d e h = ((and-eq-true_iff (test x) (every test xs)).0 e).0
  every→ (x ∷ xs) (suc i) d e h = every→ xs i d ((and-eq-true_iff (test x) (every test xs)).0 e).1 (omega arith)

  -- each element passes: then every
  pub →every : (xs : List A) (d : A) → ((i : ℕ) → i < length xs → test (get_or xs i d) ≡ true) → every test xs ≡ true
  unfolding every
  →every [] d f = refl
  →every (x ∷ xs) d f = rw (f 0 (omega arith)) (→every xs d (λ i h. f (suc i) (omega arith)))

  -- every of two lists in a row
  pub every_append : (xs ys : List A) → every test (xs ++ ys) ≡ (every test xs && every test ys)
  unfolding every
  every_append [] ys = refl
  every_append (x ∷ xs) ys = by_test (test x) (λ t. rw t (every_append xs ys)) (λ t. rw t)

  -- every of a list's first k
  pub every_take : (k : ℕ) (xs : List A) → every test xs ≡ true → every test (take k xs) ≡ true
  every_take k xs e =
      let both : (every test (take k xs) && every test (drop k xs)) ≡ true
      = sym (every_append (take k xs) (drop k xs)) ∙ ap (every test) (take-append-drop k xs) ∙ e in
      ((and-eq-true_iff (every test (take k xs)) (every test (drop k xs))).0 both).0

  -- exists of two lists in a row
  pub exists_append : (xs ys : List A) → exists test (xs ++ ys) ≡ (exists test xs || exists test ys)
  unfolding exists
  exists_append [] ys = refl
  exists_append (x ∷ xs) ys = by_test (test x) (λ t. rw t) (λ t. rw t (exists_append xs ys))

  -- the lowest place is no more than the length
  pub lowest_le : (xs : List A) → lowest test xs ≤ length xs
  unfolding lowest
  lowest_le [] = omega arith
  lowest_le (x ∷ xs) = by_test (test x) (λ t. rw t (omega arith)) (λ t. rw t (omega (arith, lowest_le xs)))

  -- the element at the lowest place passes
  pub lowest_passes : (xs : List A) (d : A) → lowest test xs < length xs → test (get_or xs (lowest test xs) d) ≡ true
  unfolding lowest
  lowest_passes [] d h = absurd (omega arith)
  lowest_passes (x ∷ xs) d h = by_test (test x) (λ t. rw t t) (λ t. rw t (lowest_passes xs d (omega (arith, rw t at h))))

  -- each element before it fails
  pub lowest_first : (xs : List A) (i : ℕ) (d : A) → i < lowest test xs → test (get_or xs i d) ≡ false
  unfolding lowest
  lowest_first [] i d h = absurd (omega arith)
  lowest_first (x ∷ xs) zero d h = by_test (test x) (λ t. absurd (omega (arith, rw t at h))) (λ t. t)
  lowest_first (x ∷ xs) (suc i) d h =
      by_test (test x) (λ t. absurd (omega (arith, rw t at h))) (λ t. lowest_first xs i d (omega (arith, rw t at h)))

  -- it is no later than any place that passes
  pub lowest_upto : (xs : List A) (i : ℕ) (d : A) → test (get_or xs i d) ≡ true → lowest test xs ≤ i
  unfolding lowest
  lowest_upto [] i d p = omega arith
  lowest_upto (x ∷ xs) zero d p = rw p (omega arith)
  lowest_upto (x ∷ xs) (suc i) d p = by_test (test x) (λ t. rw t (omega arith)) (λ t. rw t (omega (arith, lowest_upto xs i d p)))

  -- a place that passes, after none that does, is the lowest
  pub lowest_is : (xs : List A) (i : ℕ) (d : A) → test (get_or xs i d) ≡ true → ((j : ℕ) → j < i → test (get_or xs j d) ≡ false) → lowest test xs ≡ i
  unfolding lowest
  lowest_is [] zero d p f = refl
  lowest_is [] (suc i) d p f = let fails : test d ≡ false = f 0 (omega arith) in cc
  lowest_is (x ∷ xs) zero d p f = rw p
  lowest_is (x ∷ xs) (suc i) d p f = rw (f 0 (omega arith)) (ap suc (lowest_is xs i d p (λ j h. f (suc j) (omega arith))))

  -- each element fails: the lowest place is the length
  pub lowest_none : (xs : List A) (d : A) → ((i : ℕ) → i < length xs → test (get_or xs i d) ≡ false) → lowest test xs ≡ length xs
  unfolding lowest
  lowest_none [] d f = refl
  lowest_none (x ∷ xs) d f = rw (f 0 (omega arith)) (ap suc (lowest_none xs d (λ i h. f (suc i) (omega arith))))

  -- an element that passes exists where the lowest place is one of the list
  pub exists_lowest : (xs : List A) → exists test xs ≡ ltb (lowest test xs) (length xs)
  unfolding exists lowest
  exists_lowest [] = refl
  exists_lowest (x ∷ xs) =
      by_test (test x) (λ t. rw t (sym (lt-ltb 0 (suc (length xs)) (omega arith))))
      (λ t. rw t (exists_lowest xs ∙ sym (leb-suc-suc (suc (lowest test xs)) (length xs))))

  -- one exists: a place that passes
  pub exists→ : (xs : List A) (d : A) → exists test xs ≡ true → (i : ℕ) × (i < length xs) × (test (get_or xs i d) ≡ true)
  exists→ xs d e =
      let h : lowest test xs < length xs = ltb-true (lowest test xs) (length xs) (sym (exists_lowest xs) ∙ e) in
      (lowest test xs, h, lowest_passes xs d h)

  -- a place passes: one exists
  pub →exists : (xs : List A) (i : ℕ) (d : A) → i < length xs → test (get_or xs i d) ≡ true → exists test xs ≡ true
  →exists xs i d h p = exists_lowest xs ∙ lt-ltb (lowest test xs) (length xs) (omega (arith, lowest_upto xs i d p))

  -- none exists: each element fails
  pub absent→ : (xs : List A) (i : ℕ) (d : A) → exists test xs ≡ false → i < length xs → test (get_or xs i d) ≡ false
  absent→ xs i d e h = lowest_first xs i d (omega (arith, ltb-false (lowest test xs) (length xs) (sym (exists_lowest xs) ∙ e)))

  -- each element fails: none exists
  pub →absent : (xs : List A) (d : A) → ((i : ℕ) → i < length xs → test (get_or xs i d) ≡ false) → exists test xs ≡ false
  →absent xs d f = exists_lowest xs ∙ le-ltb (lowest test xs) (length xs) (omega (arith, lowest_none xs d f))

  -- as many places as elements that pass
  pub length_places : (first : ℕ) (xs : List A) → length (places test first xs) ≡ count test xs
  unfolding places count
  length_places first [] = refl
  length_places first (x ∷ xs) =
      by_test (test x) (λ t. rw t (ap suc (length_places (suc first) xs))) (λ t. rw t (length_places (suc first) xs))

  -- the places in two lists in a row
  pub places_append : (first : ℕ) (xs ys : List A) → places test first (xs ++ ys) ≡ places test first xs ++ places test (first + length xs) ys
  unfolding places
  places_append first [] ys = rw add-zero
  places_append first (x ∷ xs) ys =
      let rest = places_append (suc first) xs ys in
      by_test (test x) (λ t. simp (t, rest, suc-add, add-suc)) (λ t. simp (t, rest, suc-add, add-suc))

  -- what is read at each place passes, where reading gives the list's elements
  pub places_read : (first : ℕ) (xs : List A) (d : A) (read : ℕ → A) → ((i : ℕ) → i < length xs → read (first + i) ≡ get_or xs i d)
      → every (λ p. test (read p)) (places test first xs) ≡ true
  unfolding places every
  places_read first [] d read e = refl
  places_read first (x ∷ xs) d read e =
      let rest = places_read (suc first) xs d read (λ i h. ap read (omega arith) ∙ e (suc i) (omega arith)) in
      by_test (test x) (λ t. simp (t, rw add-zero at (e 0 (omega arith)), rest)) (λ t. rw t rest)

-- ---- rising lists of numbers

-- strictly rising, from low on and below high
pub data Rising : ℕ → ℕ → List ℕ → Type 0 where
  none : {low high : ℕ} → Rising low high []
  more : {low high : ℕ} {ps : List ℕ} (p : ℕ) → low ≤ p → p < high → Rising (suc p) high ps → Rising low high (p ∷ ps)

-- wider bounds do too
pub rising_wider : {low high low' high' : ℕ} {ps : List ℕ} → low' ≤ low → high ≤ high' → Rising low high ps → Rising low' high' ps
rising_wider l h none = none
rising_wider {low'} {high'} l h (more p a b r) = more {low = low'} {high = high'} p (omega arith) (omega arith) (rising_wider (omega arith) h r)

-- the first k of a rising list
pub rising_take : {low high : ℕ} {ps : List ℕ} (k : ℕ) → Rising low high ps → Rising low high (take k ps)
rising_take zero r = none
rising_take (suc k) none = none
rising_take (suc k) (more p a b r) = more p a b (rising_take k r)

-- a range rises
pub rising_range : (first n : ℕ) → Rising first (first + n) (range first n)
unfolding range
rising_range first zero = none
rising_range first (suc n) =
    more {low = first} {high = first + suc n} first (omega arith) (omega arith) (rising_wider (omega arith) (omega arith) (rising_range (suc first) n))

-- places rise
pub rising_places : {A : Type 0} (test : A → Bool) (first : ℕ) (xs : List A) → Rising first (first + length xs) (places test first xs)
unfolding places
rising_places test first [] = none
rising_places test first (x ∷ xs) =
    let rest = rising_places test (suc first) xs in
    by_test (test x)
    (λ t. rw t (more {low = first} {high = first + suc (length xs)} first (omega arith) (omega arith) (rising_wider (omega arith) (omega arith) rest)))
    (λ t. rw t (rising_wider (omega arith) (omega arith) rest))

-- each number is within the bounds
pub rising→within : {low high : ℕ} {ps : List ℕ} (i d : ℕ) → Rising low high ps → i < length ps → (low ≤ get_or ps i d) × (get_or ps i d < high)
rising→within i d none h = absurd (omega arith)
rising→within zero d (more p a b r) h = (a, b)
rising→within (suc i) d (more p a b r) h = omega (arith, rising→within i d r (omega arith))

-- each is below those after it
pub rising→order : {low high : ℕ} {ps : List ℕ} (i j d : ℕ) → Rising low high ps → i < j → j < length ps → get_or ps i d < get_or ps j d
rising→order i zero d r h k = absurd (omega arith)
rising→order i (suc j) d none h k = absurd (omega arith)
rising→order zero (suc j) d (more p a b r) h k = (rising→within j d r (omega arith)).0
rising→order (suc i) (suc j) d (more p a b r) h k = rising→order i j d r (omega arith) (omega arith)

-- what holds for each number within the bounds holds for every one of the list
pub rising→every : (test : ℕ → Bool) {low high : ℕ} {ps : List ℕ} → Rising low high ps
    → ((p : ℕ) → low ≤ p → p < high → test p ≡ true) → every test ps ≡ true
unfolding every
rising→every test none f = refl
rising→every test (more p a b r) f = rw (f p a b) (rising→every test r (λ q l h. f q (omega arith) h))

-- what fails for each number within the bounds, none of the list passes
pub rising→absent : (test : ℕ → Bool) {low high : ℕ} {ps : List ℕ} → Rising low high ps
    → ((p : ℕ) → low ≤ p → p < high → test p ≡ false) → exists test ps ≡ false
unfolding exists
rising→absent test none f = refl
rising→absent test (more p a b r) f = rw (f p a b) (rising→absent test r (λ q l h. f q (omega arith) h))

-- a number outside the bounds is not of the list
pub rising→outside : {low high : ℕ} {ps : List ℕ} (p : ℕ) → Rising low high ps → (low ≤ p → high ≤ p) → exists (eqb p) ps ≡ false
rising→outside p r h = rising→absent (eqb p) r (λ q a b. ne_eqb p q (λ e. omega (arith, h (omega arith))))

-- every over a range: each number of it passes
pub every_range→ : (test : ℕ → Bool) (first n : ℕ) → every test (range first n) ≡ true → (p : ℕ) → first ≤ p → p < first + n → test p ≡ true
every_range→ test first n e p l h =
    ap test (omega (arith, getD_range first n (p - first) 0 (omega arith)))
    ∙ every→ test (range first n) (p - first) 0 e (omega (arith, length_range first n))

-- each number of a range passes: every over it
pub →every-range : (test : ℕ → Bool) (first n : ℕ) → ((p : ℕ) → first ≤ p → p < first + n → test p ≡ true) → every test (range first n) ≡ true
→every-range test first n = rising→every test (rising_range first n)

-- a number from first on and before its end is of the range
pub exists_range : (first n p : ℕ) → first ≤ p → p < first + n → exists (eqb p) (range first n) ≡ true
exists_range first n p l h =
    →exists (eqb p) (range first n) (p - first) 0 (omega (arith, length_range first n))
    (eq-eqb p (get_or (range first n) (p - first) 0) (omega (arith, getD_range first n (p - first) 0 (omega arith))))

-- ---- each

module _ {A : Type 0} where
  -- the effect for two lists in a row
  pub each_append : (effect : ℕ → A → A) (xs ys : List ℕ) (a : A) → each effect (xs ++ ys) a ≡ each effect ys (each effect xs a)
  unfolding each
  each_append effect [] ys a = refl
  each_append effect (x ∷ xs) ys a = each_append effect xs ys (effect x a)

  -- a part of the result, where the effect on that part depends on that part alone
  pub each_part : {B : Type 0} (part : A → B) (effect : ℕ → A → A) (on_part : ℕ → B → B) → ((n : ℕ) (a : A) → part (effect n a) ≡ on_part n (part a))
      → (ns : List ℕ) (a : A) → part (each effect ns a) ≡ each on_part ns (part a)
  unfolding each
  each_part part effect on_part e [] a = refl
  each_part part effect on_part e (n ∷ ns) a = each_part part effect on_part e ns (effect n a) ∙ ap (each on_part ns) (e n a)

  -- a part that the effect leaves alone is as it was
  pub each_same : {B : Type 0} (part : A → B) (effect : ℕ → A → A) → ((n : ℕ) (a : A) → part (effect n a) ≡ part a)
      → (ns : List ℕ) (a : A) → part (each effect ns a) ≡ part a
  unfolding each
  each_same part effect e [] a = refl
  each_same part effect e (n ∷ ns) a = each_same part effect e ns (effect n a) ∙ e n a

-- a list filled from the front with f of each place, one store more
pub filled_more : (f : ℕ → ℕ) (d : List ℕ) (p : ℕ) → p < length d
    → set (map f (range 0 p) ++ drop p d) p (f p) ≡ map f (range 0 (suc p)) ++ drop (suc p) d
filled_more f d p h =
    let len : length (map f (range 0 p)) ≡ p = length-map (range 0 p) f ∙ length_range 0 p in
    rw (drop-cons d p 0 h, range_snoc 0 p, zero-add, map-append, set_at (map f (range 0 p)) (get_or d p 0) (drop (suc p) d) (f p) p len)
    (sym (append_snoc (map f (range 0 p)) (f p) (drop (suc p) d)))

-- a loop over a range: one page more that passes, and one that fails
pub every_more : (test : ℕ → Bool) (first i : ℕ) → every test (range first i) ≡ true → test (first + i) ≡ true
    → every test (range first (suc i)) ≡ true
unfolding every
every_more test first i e t = rw (range_snoc first i, every_append test (range first i) ((first + i) ∷ []), e, t)

pub every_fails : (test : ℕ → Bool) (first n p : ℕ) → first ≤ p → p < first + n → test p ≡ false → every test (range first n) ≡ false
every_fails test first n p l h t =
    by_test (every test (range first n)) (λ e. absurd (true≢false (sym (every_range→ test first n e p l h) ∙ t))) (λ e. e)

-- tests that agree on a range
pub every_same : (test test' : ℕ → Bool) (first n : ℕ) → ((p : ℕ) → first ≤ p → p < first + n → test p ≡ test' p)
    → every test (range first n) ≡ every test' (range first n)
unfolding every range
every_same test test' first zero h = refl
every_same test test' first (suc n) h =
    rw (h first (omega arith) (omega arith), every_same test test' (suc first) n (λ p l k. h p (omega arith) (omega arith)))
