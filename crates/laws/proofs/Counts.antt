-- Laws of counting: how many elements of a list pass a test, after one of them changed, and after an effect on each page of a rising list
-- or a range changed the page's table byte; and what that effect leaves as it was.
use mathlib.Core.Path.{◌≡◌, refl, sym, ◌∙◌, ap}
use mathlib.Core.Bool.{Bool, true, false, cond, not, ◌&&◌, and-false}
use mathlib.Core.List.{List, [], ◌∷◌, ◌++◌}
use Prim.Native.Nat.{ℕ, zero, suc, ◌+◌, ◌<◌, ◌≤◌}
use native.Mathlib.Omega.{arith}
use borrow.Author.Tests.{ltb-false, lt-ltb, eqb-true, eqb-false, eq-eqb, ne_eqb}
use lib.Dec.{ltb, eqb, leb-suc-zero, leb-suc-suc, eqb-suc-zero, eqb-suc-suc}
use lib.ListN.{length, get_or, take, set, length-set}
use lib.Seq.{get_or-set_same, get_or-set_other}
use Rattle.rules.specs.Words.{range, every, exists, count, places, each}
use Rattle.rules.specs.Machine.{Lent, table_byte, change}
use Rattle.laws.specs.Revised.{revise}
use Rattle.laws.proofs.Change.{change_table, change_memory, change_sheet}
use Rattle.laws.proofs.Ranges.{by_test, length_range, range_snoc, each_part, each_same, Rising, none, more, rising_take, rising_range}
use Rattle.laws.proofs.Ranges.{rising_places, rising→every, rising→absent, rising→outside}

-- what an element adds to a count
abbrev pub one : Bool → ℕ
one b = cond b 1 0

-- at most 1
pub one_le : (b : Bool) → one b ≤ 1
one_le true = omega arith
one_le false = omega arith

module _ {A : Type 0} (test : A → Bool) where
  -- the first element, and the rest
  pub count_cons : (x : A) (xs : List A) → count test (x ∷ xs) ≡ one (test x) + count test xs
  unfolding count
  count_cons x xs = by_test (test x) (λ t. rw t (omega arith)) (λ t. rw t (omega arith))

  -- two lists in a row
  pub count_append : (xs ys : List A) → count test (xs ++ ys) ≡ count test xs + count test ys
  unfolding count
  count_append [] ys = omega arith
  count_append (x ∷ xs) ys = omega (arith, count_cons x (xs ++ ys), count_cons x xs, count_append xs ys)

  -- no more than there are elements
  pub count_le_length : (xs : List A) → count test xs ≤ length xs
  unfolding count
  count_le_length [] = omega arith
  count_le_length (x ∷ xs) = omega (arith, count_cons x xs, one_le (test x), count_le_length xs)

  -- one element set: less what it added, plus what the new one adds
  pub count_set : (xs : List A) (i : ℕ) (y d : A) → i < length xs → count test (set xs i y) + one (test (get_or xs i d)) ≡ count test xs + one (test y)
  count_set [] i y d h = absurd (omega arith)
  count_set (x ∷ xs) zero y d h = omega (arith, count_cons x xs, count_cons y xs)
  count_set (x ∷ xs) (suc i) y d h = omega (arith, count_cons x xs, count_cons x (set xs i y), count_set xs i y d (omega arith))

  -- an element that passes exists where the count is not 0
  pub exists_count : (xs : List A) → exists test xs ≡ ltb 0 (count test xs)
  unfolding exists count
  exists_count [] = refl
  exists_count (x ∷ xs) = by_test (test x) (λ t. rw t (sym (lt-ltb 0 (suc (count test xs)) (omega arith)))) (λ t. rw t (exists_count xs))

  -- every element passes where the count is the length
  pub every_count : (xs : List A) → every test xs ≡ eqb (count test xs) (length xs)
  unfolding every count
  every_count [] = refl
  every_count (x ∷ xs) =
      by_test (test x) (λ t. rw t (every_count xs ∙ sym (eqb-suc-suc (count test xs) (length xs))))
      (λ t. rw t (sym (ne_eqb (count test xs) (suc (length xs)) (omega (arith, count_le_length xs)))))

  -- each fails: 0 pass
  pub count_none : (xs : List A) → exists test xs ≡ false → count test xs ≡ 0
  count_none xs e = omega (arith, ltb-false 0 (count test xs) (sym (exists_count xs) ∙ e))

  -- each passes: as many as there are
  pub count_all : (xs : List A) → every test xs ≡ true → count test xs ≡ length xs
  count_all xs e = eqb-true (count test xs) (length xs) (sym (every_count xs) ∙ e)

  -- the first k places: element i's is one of them if it passes and fewer than k before it do
  pub exists_take_places : (k first : ℕ) (xs : List A) (i : ℕ) (d : A) → i < length xs
      → exists (eqb (first + i)) (take k (places test first xs)) ≡ (test (get_or xs i d) && ltb (count test (take i xs)) k)
  unfolding places exists count
  exists_take_places k first [] i d h = absurd (omega arith)
  exists_take_places zero first (x ∷ xs) i d h = simp (leb-suc-zero, and-false)
  exists_take_places (suc k) first (x ∷ xs) zero d h =
      by_test (test x) (λ t. simp (t, eq-eqb (first + 0) first (omega arith), lt-ltb 0 (suc k) (omega arith)))
      (λ t. rw t (rising→outside (first + 0) (rising_take (suc k) (rising_places test (suc first) xs)) (omega arith)))
  exists_take_places (suc k) first (x ∷ xs) (suc i) d h =
      let rest : (k : ℕ) → exists (eqb (first + suc i)) (take k (places test (suc first) xs)) ≡ (test (get_or xs i d) && ltb (count test (take i xs)) k)
      = λ k. ap (λ p. exists (eqb p) (take k (places test (suc first) xs))) (omega arith) ∙ exists_take_places k (suc first) xs i d (omega arith) in
      by_test (test x) (λ t. rw (t, ne_eqb (first + suc i) first (omega arith), leb-suc-suc) (rest k)) (λ t. rw t (rest (suc k)))

-- tests that agree from low on count alike over a list that rises from there
pub count_agree : (test test' : ℕ → Bool) {low high : ℕ} {ps : List ℕ} → Rising low high ps → ((p : ℕ) → low ≤ p → test p ≡ test' p)
    → count test ps ≡ count test' ps
unfolding count
count_agree test test' none e = refl
count_agree test test' (more p a b r) e = rw (e p a, count_agree test test' r (λ q h. e q (omega arith)))

-- ---- a list's elements at the places of a rising list, each changed by f

module _ {A : Type 0} (f : A → A) (d : A) where
  -- an element whose place is not of the list is as it was
  pub getD_not_revised : (ps : List ℕ) (xs : List A) (i : ℕ) → exists (eqb i) ps ≡ false → get_or (each (revise f d) ps xs) i d ≡ get_or xs i d
  unfolding each exists revise
  getD_not_revised [] xs i e = refl
  getD_not_revised (p ∷ ps) xs i e =
      by_test (eqb i p) (λ t. cc)
      (λ t. getD_not_revised ps (revise f d p xs) i (rw t at e) ∙ get_or-set_other xs p i (f (get_or xs p d)) d (eqb-false i p t))

  -- an element whose place is of the list is changed once
  pub getD_revised : {low high : ℕ} {ps : List ℕ} → Rising low high ps → (xs : List A) (i : ℕ) → exists (eqb i) ps ≡ true → i < length xs
      → get_or (each (revise f d) ps xs) i d ≡ f (get_or xs i d)
  unfolding each exists revise
  getD_revised none xs i e h = cc
  getD_revised (more {ps = ps} p a b r) xs i e h =
      by_test (eqb i p)
      (λ t. getD_not_revised ps (revise f d p xs) i (rising→outside i r (omega (arith, eqb-true i p t)))
      ∙ rw (← eqb-true i p t) (get_or-set_same xs i (f (get_or xs i d)) d h))
      (λ t. getD_revised r (revise f d p xs) i (rw t at e) (rw length-set h) ∙ ap f (get_or-set_other xs p i (f (get_or xs p d)) d (eqb-false i p t)))

  -- the count after it: less those of the list that passed before, plus those that pass after
  pub count_revised : (test : A → Bool) {low high : ℕ} {ps : List ℕ} → Rising low high ps → (xs : List A) → high ≤ length xs
      → count test (each (revise f d) ps xs) + count (λ p. test (get_or xs p d)) ps ≡ count test xs + count (λ p. test (f (get_or xs p d))) ps
  unfolding each count revise
  count_revised test none xs h = refl
  count_revised test (more {ps = ps} p a b r) xs h =
      let other : (q : ℕ) → p < q → get_or (revise f d p xs) q d ≡ get_or xs q d = λ q k. get_or-set_other xs p q (f (get_or xs p d)) d (omega arith) in
      omega (
        arith,
        count_revised test r (revise f d p xs) (rw length-set h),
        count_set test xs p (f (get_or xs p d)) d (omega arith),
        count_cons (λ q. test (get_or xs q d)) p ps,
        count_cons (λ q. test (f (get_or xs q d))) p ps,
        count_agree (λ q. test (get_or (revise f d p xs) q d)) (λ q. test (get_or xs q d)) r (λ q k. ap test (other q k)),
        count_agree (λ q. test (f (get_or (revise f d p xs) q d))) (λ q. test (f (get_or xs q d))) r (λ q k. ap (λ x. test (f x)) (other q k)),
      )

-- ---- an effect on each page of a list that changes the page's table byte by f, as `change f` does, whatever else it does

module _ (f : ℕ → ℕ) (effect : ℕ → Lent → Lent) (changes : (p : ℕ) (m : Lent) → (effect p m).table ≡ (change f p m).table) where
  -- the table after it
  pub table_each : (ps : List ℕ) (m : Lent) → (each effect ps m).table ≡ each (revise f 0) ps m.table
  table_each = each_part (λ m. m.table) effect (revise f 0) (λ p m. changes p m ∙ change_table f p m)

  -- the byte of a page of the list is changed by f
  pub table_byte_each : {low high : ℕ} {ps : List ℕ} → Rising low high ps → (m : Lent) (p : ℕ) → exists (eqb p) ps ≡ true → p < length m.table
      → table_byte (each effect ps m) p ≡ f (table_byte m p)
  unfolding table_byte
  table_byte_each r m p e h = rw table_each (getD_revised f 0 r m.table p e h)

  -- the byte of a page that is not of the list is as it was
  pub table_byte_each_other : (ps : List ℕ) (m : Lent) (p : ℕ) → exists (eqb p) ps ≡ false → table_byte (each effect ps m) p ≡ table_byte m p
  unfolding table_byte
  table_byte_each_other ps m p e = rw table_each (getD_not_revised f 0 ps m.table p e)

  -- the count after it: less the pages of the list that passed before, plus those that pass after
  pub count_each : (test : ℕ → Bool) {low high : ℕ} {ps : List ℕ} → Rising low high ps → (m : Lent) → high ≤ length m.table
      → count test (each effect ps m).table + count (λ p. test (table_byte m p)) ps ≡ count test m.table + count (λ p. test (f (table_byte m p))) ps
  unfolding table_byte
  count_each test r m h = rw table_each (count_revised f 0 test r m.table h)

  -- each page of the list failed before and passes after: the count goes up by their number
  pub count_each_up : (test : ℕ → Bool) {low high : ℕ} {ps : List ℕ} → Rising low high ps → (m : Lent) → high ≤ length m.table
      → exists (λ p. test (table_byte m p)) ps ≡ false
      → every (λ p. test (f (table_byte m p))) ps ≡ true
      → count test (each effect ps m).table ≡ count test m.table + length ps
  count_each_up test {ps} r m h before after =
      omega (arith, count_each test r m h, count_none (λ p. test (table_byte m p)) ps before, count_all (λ p. test (f (table_byte m p))) ps after)

  -- each passed before and fails after: it goes down by their number
  pub count_each_down : (test : ℕ → Bool) {low high : ℕ} {ps : List ℕ} → Rising low high ps → (m : Lent) → high ≤ length m.table
      → every (λ p. test (table_byte m p)) ps ≡ true
      → exists (λ p. test (f (table_byte m p))) ps ≡ false
      → count test (each effect ps m).table + length ps ≡ count test m.table
  count_each_down test {ps} r m h before after =
      omega (arith, count_each test r m h, count_all (λ p. test (table_byte m p)) ps before, count_none (λ p. test (f (table_byte m p))) ps after)

  -- the same over the n pages from `first` on
  module _ (first n : ℕ) (m : Lent) where
    -- each page of the range failed before and passes after: the count goes up by n
    pub count_range_up : (test : ℕ → Bool) → first + n ≤ length m.table
        → ((p : ℕ) → first ≤ p → p < first + n → test (table_byte m p) ≡ false)
        → ((p : ℕ) → first ≤ p → p < first + n → test (f (table_byte m p)) ≡ true)
        → count test (each effect (range first n) m).table ≡ count test m.table + n
    count_range_up test h before after =
        let r = rising_range first n in
        omega (arith, length_range first n, count_each_up test r m h (rising→absent _ r before) (rising→every _ r after))

-- the single-page change, on however many pages, leaves the memory as it was
pub memory_each : (f : ℕ → ℕ) (ps : List ℕ) (m : Lent) → (each (change f) ps m).memory ≡ m.memory
memory_each f = each_same (λ m. m.memory) (change f) (change_memory f)

-- and the sheet
pub sheet_each : (f : ℕ → ℕ) (ps : List ℕ) (m : Lent) → (each (change f) ps m).sheet ≡ m.sheet
sheet_each f = each_same (λ m. m.sheet) (change f) (change_sheet f)

-- a loop that counts over a range
pub count_more : (test : ℕ → Bool) (first i : ℕ) → count test (range first (suc i)) ≡ count test (range first i) + one (test (first + i))
unfolding count
count_more test first i =
    rw (range_snoc first i) (count_append test (range first i) ((first + i) ∷ []) ∙ ap (λ (n : ℕ). count test (range first i) + n) (single (test (first + i))))
  where
    single : (b : Bool) → cond b 1 0 ≡ one b
    single true = refl
    single false = refl

-- none passes where each fails
pub every_not : {A : Type 0} (test : A → Bool) (xs : List A) → every (λ x. not (test x)) xs ≡ eqb (count test xs) 0
unfolding every count
every_not test [] = refl
every_not test (x ∷ xs) = by_test (test x) (λ t. rw t (sym (eqb-suc-zero (count test xs)))) (λ t. rw t (every_not test xs))
