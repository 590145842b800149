-- Statement 5: the pages in use of the pool are no more than the records that need one. A page in use is claimed by a record that is live and holds it, a
-- record holds one page, and records 0 to 3 hold none.
use mathlib.Core.Path.{◌≡◌, refl, sym, ◌∙◌, ap}
use mathlib.Core.Bool.{Bool, true, false, cond, ◌&&◌, ◌||◌, true≢false}
use mathlib.Core.List.{List, [], ◌∷◌}
use Prim.Native.Nat.{ℕ, zero, suc, ◌+◌, ◌-◌, ◌<◌, ◌≤◌}
use native.Mathlib.Omega.{arith}
use native.Mathlib.Nat.{add-zero, zero-add}
use lib.Dec.{eqb}
use lib.ListN.{length, get_or}
use borrow.Author.Tests.{eqb-true, lt-leb}
use Rattle.rules.specs.Words.{records, records_without_pool, range, exists, count}
use Rattle.rules.specs.Machine.{Lent, N, owner, pool_in_use, table_byte, fields, is_live, holds, needs_page, record_at}
use Rattle.rules.specs.Sound.{claim, claims, agrees, sound}
use Rattle.laws.proofs.Ranges.{by_test, exists_append, rising_range, rising→outside}
use Rattle.laws.proofs.Counts.{one, one_le, count_cons, count_none}
use Rattle.safety.specs.Terms.{in_use}
use Rattle.safety.proofs.Small.{implied}
use Rattle.safety.proofs.Sound.Facts.{open_sound}
use Rattle.safety.proofs.Sound.Sizes.{sheet_length}
use Rattle.safety.proofs.Sound.Rows.{holds_needed}

-- ---- counts

module _ {A : Type 0} (test : A → Bool) (d : A) where
  -- what passes in a list passes again in a range as long
  count_onto : (over : ℕ → Bool) (first : ℕ) (xs : List A) → ((i : ℕ) → i < length xs → test (get_or xs i d) ≡ true → over (first + i) ≡ true)
      → count test xs ≤ count over (range first (length xs))
  unfolding count range
  count_onto over first [] h = omega arith
  count_onto over first (x ∷ xs) h =
      let rest = count_onto over (suc first) xs (λ i b t. ap over (omega arith) ∙ h (suc i) (omega arith) t) in
      let here : test x ≡ true → over first ≡ true = λ t. rw add-zero at (h 0 (omega arith) t) in
      by_test (test x) (λ t. rw (t, here t) (omega arith))
      (λ t. rw t (omega (arith, count_cons over first (range (suc first) (length xs)))))

  -- if none of the first k pass, no more pass than there are behind them
  count_late : (k : ℕ) (xs : List A) → ((i : ℕ) → i < k → i < length xs → test (get_or xs i d) ≡ false) → count test xs ≤ length xs - k
  unfolding count
  count_late k [] h = omega arith
  count_late zero (x ∷ xs) h =
      omega (arith, count_cons test x xs, one_le (test x), count_late 0 xs (λ i b c. absurd (omega arith)))
  count_late (suc k) (x ∷ xs) h =
      rw (h 0 (omega arith) (omega arith)) (omega (arith, count_late k xs (λ i b c. h (suc i) (omega arith) (omega arith))))

-- a range holds a number at most once
count_range_one : (q first n : ℕ) → count (eqb q) (range first n) ≤ 1
unfolding count range
count_range_one q first zero = omega arith
count_range_one q first (suc n) =
    by_test (eqb q first)
    (λ t. let later = count_none (eqb q) (range (suc first) n) (rising→outside q (rising_range (suc first) n) (omega (arith, eqb-true q first t))) in
    rw t (omega arith))
    (λ t. rw t (count_range_one q (suc first) n))

either : (a b : Bool) → one (a || b) ≤ one a + one b
either true b = omega arith
either false b = omega arith

-- what passes one test or the other
count_either : {A : Type 0} (f g : A → Bool) (xs : List A) → count (λ x. f x || g x) xs ≤ count f xs + count g xs
unfolding count
count_either f g [] = omega arith
count_either f g (x ∷ xs) =
    omega (arith, count_either f g xs, either (f x) (g x), count_cons f x xs, count_cons g x xs, count_cons (λ x. f x || g x) x xs)

count_false : {A : Type 0} (xs : List A) → count (λ x. false) xs ≡ 0
unfolding count
count_false [] = refl
count_false (x ∷ xs) = count_false xs

-- if each row names at most one of the ps, and none unless it holds, no more of them are named than rows hold
count_named : {A : Type 0} (names : A → ℕ → Bool) (holding : A → Bool) (ps : List ℕ) → ((a : A) → count (names a) ps ≤ one (holding a))
    → (rows : List A) → count (λ p. exists (λ a. names a p) rows) ps ≤ count holding rows
unfolding exists
count_named names holding ps h [] = omega (arith, count_false ps)
count_named names holding ps h (a ∷ rows) =
    omega (
      arith,
      h a,
      count_cons holding a rows,
      count_either (names a) (λ p. exists (λ a. names a p) rows) ps,
      count_named names holding ps h rows,
    )

-- ---- the pages that a sheet's records hold

-- the record is live and holds a pool page
unfoldable keeps : List ℕ → Bool
keeps r = is_live r && holds r

-- and that page is p
unfoldable keeps_page : List ℕ → ℕ → Bool
keeps_page r p = keeps r && eqb (fields r).pool p

one_page : (b : Bool) (q first n : ℕ) → count (λ p. b && eqb q p) (range first n) ≤ one b
one_page true q first n = count_range_one q first n
one_page false q first n = omega (arith, count_false (range first n))

four : (b : Bool) → exists (eqb pool_in_use) (cond b (pool_in_use ∷ []) []) ≡ b
unfolding exists
four true = refl
four false = refl

-- a record claims p as a page in use if it keeps it
claim_four : (r : List ℕ) (p : ℕ) → exists (eqb pool_in_use) (claim r p) ≡ keeps_page r p
unfolding claim keeps_page keeps exists
claim_four r p =
    let v = fields r in
    let last = four (holds r && eqb v.pool p) in
    by_test (is_live r) (λ l. rw l
    (by_test (eqb v.vmsa p)
    (λ a. rw a (by_test (eqb v.calling p) (λ b. rw b last) (λ b. rw b last)))
    (λ a. rw a (by_test (eqb v.calling p) (λ b. rw b last) (λ b. rw b last)))))
    (λ l. rw l)

claims_four : (rows : List (List ℕ)) (p : ℕ) → exists (eqb pool_in_use) (claims rows p) ≡ exists (λ r. keeps_page r p) rows
unfolding claims exists
claims_four [] p = refl
claims_four (r ∷ rows) p = rw (exists_append (eqb pool_in_use) (claim r p) (claims rows p), claim_four r p, claims_four rows p)

-- a page in use is claimed as one
agreed_four : (cs : List ℕ) → agrees cs pool_in_use ≡ true → exists (eqb pool_in_use) cs ≡ true
unfolding agrees exists
agreed_four [] e = e
agreed_four (c ∷ []) e = rw e
agreed_four (c ∷ d ∷ ds) e = absurd (true≢false (sym e))

-- ---- a sound machine

module _ (m : Lent) (s : sound m ≡ true) where
  -- a page in use is kept by a record
  in_use_kept_by : (p : ℕ) → p < N m → eqb (owner (table_byte m p)) pool_in_use ≡ true → exists (λ r. keeps_page r p) m.sheet ≡ true
  in_use_kept_by p h e =
      let o : owner (table_byte m p) ≡ pool_in_use = eqb-true _ _ e in
      rw (← claims_four m.sheet p) (agreed_four (claims m.sheet p) (rw o at ((open_sound m s).pages p h).agreed))

  -- the first records keep none
  first_keep_none : (i : ℕ) → i < records_without_pool → i < length m.sheet → keeps (get_or m.sheet i []) ≡ false
  unfolding keeps record_at needs_page
  first_keep_none i h b =
      let fine = open_sound m s in
      implied (is_live (get_or m.sheet i [])) (holds (get_or m.sheet i []))
      (λ t. holds_needed m fine i (rw (sheet_length m fine.tables) at b) t ∙ lt-leb records_without_pool i h)

  -- statement 5
  pub at_most : in_use m ≤ records - records_without_pool
  unfolding in_use N table_byte keeps_page
  at_most =
      let test : ℕ → Bool = λ b. eqb (owner b) pool_in_use in
      let onto = count_onto test 0 (λ p. exists (λ r. keeps_page r p) m.sheet) 0 m.table (λ i h t. rw zero-add (in_use_kept_by i h t)) in
      let named = count_named keeps_page keeps (range 0 (N m)) (λ r. one_page (keeps r) (fields r).pool 0 (N m)) m.sheet in
      omega (arith, onto, named, count_late keeps [] records_without_pool m.sheet first_keep_none, sheet_length m (open_sound m s).tables)
