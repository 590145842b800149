-- Laws of `little` and `number`, over the width: a number laid out as bytes is read back, and only a write into its own bytes changes a
-- number.
use mathlib.Core.Path.{◌≡◌, refl, ◌∙◌, ap, ap₂}
use mathlib.Core.Logic.{◌⊎◌, inl, inr}
use mathlib.Core.List.{List, [], ◌∷◌, ◌++◌, append_assoc}
use Prim.Native.Nat.{ℕ, zero, suc, ◌+◌, ◌*◌, ◌/◌, ◌%◌, ◌^◌, ◌<◌, ◌≤◌}
use native.Mathlib.Omega.{arith}
use native.Mathlib.Nat.{add-zero, add-suc, suc-add, add_assoc, pow-suc, mod-eq_of_lt, one-le-pow}
use lib.Arith.{mod-mul}
use lib.ListN.{length, get_or, take, drop, set, length-set, length-replicate}
use lib.Seq.{sets, sets-eq, length-take-le, get_or-append-add, get_or-set_same, get_or-set_other, drop-cons}
use Rattle.rules.specs.Words.{little, number}
use Rattle.rules.specs.Machine.{zeros}

-- a number is what its bytes are: where the w bytes at two places are the same, so are the numbers
pub number_same : (w : ℕ) (l m : List ℕ) (i j : ℕ) → ((k : ℕ) → k < w → get_or l (i + k) 0 ≡ get_or m (j + k) 0)
    → number w l i ≡ number w m j
unfolding number
number_same zero l m i j h = refl
number_same (suc w) l m i j h =
    ap₂ (λ (a b : ℕ). a + 256 * b) (simp add-zero at (h 0 (omega arith)))
    (number_same w l m (suc i) (suc j) (λ k b. simp suc-add (simp add-suc at (h (suc k) (omega arith)))))

-- behind xs stand the numbers of ys
pub number_append : (w : ℕ) (xs ys : List ℕ) (i : ℕ) → number w (xs ++ ys) (length xs + i) ≡ number w ys i
number_append w xs ys i = number_same w (xs ++ ys) ys (length xs + i) i (λ k b. rw (add_assoc, get_or-append-add))

-- little w n is w elements
pub length_little : (w n : ℕ) → length (little w n) ≡ w
unfolding little
length_little zero n = refl
length_little (suc w) n = ap suc (length_little w (n / 256))

-- and each is a byte, past the end too, where 0 is read
pub little_bytes : (w n k : ℕ) → get_or (little w n) k 0 < 256
unfolding little
little_bytes zero n k = omega arith
little_bytes (suc w) n zero = omega arith
little_bytes (suc w) n (suc k) = little_bytes w (n / 256) k

-- the w bytes of n hold n, but for what does not fit
pub number_little : (w n : ℕ) (rest : List ℕ) → number w (little w n ++ rest) 0 ≡ n % 256 ^ w
unfolding number little
number_little zero n rest = omega arith
number_little (suc w) n rest =
    let behind = number_append w (n % 256 ∷ []) (little w (n / 256) ++ rest) 0 in
    let digits = mod-mul n {m = 256 ^ w} {c = 256} (one-le-pow w 256 (omega arith)) (omega arith) in
    rw pow-suc (omega (arith, behind, digits, number_little w (n / 256) rest))

-- and all of n where it fits
pub number_little_fits : (w n : ℕ) (rest : List ℕ) → n < 256 ^ w → number w (little w n ++ rest) 0 ≡ n
number_little_fits w n rest h = number_little w n rest ∙ mod-eq_of_lt h

-- a number that is written is read
pub number_written : (w : ℕ) (l : List ℕ) (at n : ℕ) → at + w ≤ length l → n < 256 ^ w → number w (sets l at (little w n)) at ≡ n
number_written w l at n h b =
    let rest : List ℕ = drop (at + length (little w n)) l in
    rw (sets-eq (little w n) l at (omega (arith, length_little w n)), append_assoc)
    (rw (add-zero, length-take-le at l (omega arith)) at (number_append w (take at l) (little w n ++ rest) 0) ∙ number_little_fits w n rest b)

-- a write before or behind leaves an element as it was
pub getD_sets_elsewhere : {A : Type 0} (l : List A) (at : ℕ) (vs : List A) (i : ℕ) (d : A) → (i < at) ⊎ (at + length vs ≤ i)
    → get_or (sets l at vs) i d ≡ get_or l i d
getD_sets_elsewhere l at [] i d h = refl
getD_sets_elsewhere l at (v ∷ vs) i d (inl h) =
    getD_sets_elsewhere (set l at v) (suc at) vs i d (inl (omega arith)) ∙ get_or-set_other l at i v d (omega arith)
getD_sets_elsewhere l at (v ∷ vs) i d (inr h) =
    getD_sets_elsewhere (set l at v) (suc at) vs i d (inr (omega arith)) ∙ get_or-set_other l at i v d (omega arith)

-- and a number
pub number_elsewhere : (w : ℕ) (l : List ℕ) (at : ℕ) (vs : List ℕ) (i : ℕ) → (i + w ≤ at) ⊎ (at + length vs ≤ i)
    → number w (sets l at vs) i ≡ number w l i
number_elsewhere w l at vs i (inl h) =
    number_same w (sets l at vs) l i i (λ k b. getD_sets_elsewhere l at vs (i + k) 0 (inl (omega arith)))
number_elsewhere w l at vs i (inr h) =
    number_same w (sets l at vs) l i i (λ k b. getD_sets_elsewhere l at vs (i + k) 0 (inr (omega arith)))

-- the same for a write of one byte
pub number_set_elsewhere : (w : ℕ) (l : List ℕ) (at v i : ℕ) → (i + w ≤ at) ⊎ (at < i) → number w (set l at v) i ≡ number w l i
number_set_elsewhere w l at v i (inl h) = number_elsewhere w l at (v ∷ []) i (inl h)
number_set_elsewhere w l at v i (inr h) = number_elsewhere w l at (v ∷ []) i (inr (omega arith))

-- w bytes hold a number below 256 ^ w
pub number_below : (w : ℕ) (l : List ℕ) (at : ℕ) → ((k : ℕ) → k < w → get_or l (at + k) 0 < 256) → number w l at < 256 ^ w
unfolding number
number_below zero l at h = omega arith
number_below (suc w) l at h =
    let rest = number_below w l (suc at) (λ k b. simp suc-add (simp add-suc at (h (suc k) (omega arith)))) in
    omega (arith, simp add-zero at (h 0 (omega arith)))

-- and that number's bytes are those w bytes
pub little_number : (w : ℕ) (l : List ℕ) (at : ℕ) → ((k : ℕ) → k < w → get_or l (at + k) 0 < 256) → at + w ≤ length l
    → little w (number w l at) ≡ take w (drop at l)
unfolding number little
little_number zero l at h b = refl
little_number (suc w) l at h b =
    let low : get_or l at 0 < 256 = simp add-zero at (h 0 (omega arith)) in
    let high : (get_or l at 0 + 256 * number w l (suc at)) / 256 ≡ number w l (suc at) = omega arith in
    let rest = little_number w l (suc at) (λ k c. simp suc-add (simp add-suc at (h (suc k) (omega arith)))) (omega arith) in
    rw (drop-cons l at 0 (omega arith)) (ap₂ ◌∷◌ (omega arith) (ap (little w) high ∙ rest))

-- n zeros are n
pub length_zeros : (n : ℕ) → length (zeros n) ≡ n
unfolding zeros
length_zeros n = length-replicate n 0

-- among zeros each byte is 0
pub zeros_at : (n i : ℕ) → get_or (zeros n) i 0 ≡ 0
unfolding zeros
zeros_at zero i = refl
zeros_at (suc n) zero = refl
zeros_at (suc n) (suc i) = zeros_at n i

-- and each number is 0
pub number_zeros : (w n i : ℕ) → number w (zeros n) i ≡ 0
unfolding number
number_zeros zero n i = refl
number_zeros (suc w) n i = omega (arith, zeros_at n i, number_zeros w n (suc i))

-- an element that is written is read
pub getD_stored : {A : Type 0} (l : List A) (at : ℕ) (vs : List A) (i : ℕ) (d : A) → at + length vs ≤ length l → i < length vs
    → get_or (sets l at vs) (at + i) d ≡ get_or vs i d
getD_stored l at [] i d h b = absurd (omega arith)
getD_stored l at (v ∷ vs) zero d h b =
    rw add-zero (getD_sets_elsewhere (set l at v) (suc at) vs at d (inl (omega arith)) ∙ get_or-set_same l at v d (omega arith))
getD_stored l at (v ∷ vs) (suc i) d h b =
    rw (add-suc, ← suc-add) (getD_stored (set l at v) (suc at) vs i d (omega (arith, length-set l at v)) (omega arith))

-- and so is a number, at any place among them
pub number_stored : (w : ℕ) (l : List ℕ) (at : ℕ) (vs : List ℕ) (i : ℕ) → at + length vs ≤ length l → i + w ≤ length vs
    → number w (sets l at vs) (at + i) ≡ number w vs i
number_stored w l at vs i h b =
    number_same w (sets l at vs) vs (at + i) i (λ k c. rw add_assoc (getD_stored l at vs (i + k) 0 h (omega arith)))
