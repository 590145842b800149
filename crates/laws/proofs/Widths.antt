-- A number of a + b bytes is one of a bytes and then one of b bytes: what reads and writes of each width share.
use mathlib.Core.Path.{◌≡◌, refl, ◌∙◌, ap}
use mathlib.Core.List.{List, [], ◌∷◌, ◌++◌}
use Prim.Native.Nat.{ℕ, zero, suc, ◌+◌, ◌*◌, ◌/◌, ◌%◌, ◌^◌, ◌<◌}
use native.Mathlib.Nat.{zero-add, suc-add, add-suc, add-zero, mul-add, mul_assoc, add_assoc, pow-succ', pow-zero, one-mul, div-div-eq-div-mul, div-one, pow-suc, mod-lt, one-le-pow}
use native.Mathlib.Nat.{add-mul-div_left, add-mul-mod_self_left, div-eq_of_lt, mod-eq_of_lt}
use lib.ListN.{length, get_or, set, take}
use native.Mathlib.Omega.{arith}
use lib.Seq.{sets, take-suc, length-take-le}
use lib.Dec.{lit<}
use lib.Arith.{mod-mul, digits_mod, digits_div}
use Rattle.rules.specs.Words.{number, little}
use Rattle.laws.proofs.Numbers.{length_little}

-- a read of a + b bytes
pub number_add : (a b : ℕ) (l : List ℕ) (at : ℕ) → number (a + b) l at ≡ number a l at + 256 ^ a * number b l (at + a)
unfolding number
number_add zero b l at = simp (zero-add, pow-zero, one-mul, add-zero)
number_add (suc a) b l at =
    rw (suc-add, number_add a b l (suc at)) (simp (mul-add, mul_assoc, add_assoc, pow-succ', suc-add, add-suc))

-- the bytes of a + b bytes
pub little_add : (a b n : ℕ) → little (a + b) n ≡ little a n ++ little b (n / 256 ^ a)
unfolding little
little_add zero b n = simp (zero-add, pow-zero, div-one)
little_add (suc a) b n = rw (suc-add, little_add a b (n / 256)) (simp (div-div-eq-div-mul, pow-succ'))

-- a run of stores in two parts
pub sets_append : {A : Type 0} (l : List A) (i : ℕ) (xs ys : List A) → sets l i (xs ++ ys) ≡ sets (sets l i xs) (i + length xs) ys
sets_append l i [] ys = simp add-zero
sets_append l i (x ∷ xs) ys = sets_append (set l i x) (suc i) xs ys ∙ simp (add-suc, suc-add)

-- one store more
pub sets_more : {A : Type 0} (l : List A) (i : ℕ) (vs : List A) (j : ℕ) (d : A) → j < length vs
    → set (sets l i (take j vs)) (i + j) (get_or vs j d) ≡ sets l i (take (suc j) vs)
sets_more l i vs j d h =
    rw (take-suc vs j d h, sets_append l i (take j vs) (get_or vs j d ∷ []), length-take-le j vs (omega arith))

-- only the lowest bytes matter
pub little_mod : (w n : ℕ) → little w (n % 256 ^ w) ≡ little w n
unfolding little
little_mod zero n = refl
little_mod (suc w) n =
    let low : n % 256 < 256 = mod-lt n (lit< tt) in
    let split : n % 256 ^ suc w ≡ n / 256 % 256 ^ w * 256 + n % 256 = ap (λ (k : ℕ). n % k) (pow-suc 256 w) ∙ mod-mul n (one-le-pow w 256 (lit< tt)) (lit< tt) in
    rw split (rw (digits_mod (n / 256 % 256 ^ w) low, digits_div (n / 256 % 256 ^ w) low, little_mod w (n / 256)))

-- a number written in two halves
pub sets_halves : (w : ℕ) (l : List ℕ) (at n : ℕ)
    → sets (sets l at (little w (n % 256 ^ w))) (at + w) (little w (n / 256 ^ w)) ≡ sets l at (little (w + w) n)
sets_halves w l at n =
    rw (little_mod, little_add w w n, sets_append l at (little w n)) (simp length_little)

-- the bytes of a number made of two halves
pub little_pair : (w low high : ℕ) → low < 256 ^ w → little (w + w) (low + 256 ^ w * high) ≡ little w low ++ little w high
little_pair w low high h =
    let pos : 0 < 256 ^ w = one-le-pow w 256 (lit< tt) in
    let rest : (low + 256 ^ w * high) / 256 ^ w ≡ high = add-mul-div_left low high pos ∙ rw (div-eq_of_lt h) (zero-add high) in
    let front : (low + 256 ^ w * high) % 256 ^ w ≡ low = add-mul-mod_self_left low (256 ^ w) high ∙ mod-eq_of_lt h in
    rw (little_add w w (low + 256 ^ w * high), rest, ← little_mod w (low + 256 ^ w * high), front)
