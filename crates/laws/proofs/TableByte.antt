-- Laws of one bit put into a number, for every bit and every number; and from them each field of a table byte after each change of it.
-- `simp byte·simp` rewrites a field of a changed byte to what it is.
use mathlib.Core.Path.{◌≡◌, refl, ◌∙◌}
use mathlib.Core.Bool.{Bool, true, false, cond, ◌&&◌, ◌||◌, and-true, and-false}
use Prim.Native.Nat.{ℕ, zero, suc, ◌+◌, ◌*◌, ◌/◌, ◌%◌, ◌^◌, ◌<◌, ◌≤◌}
use native.Mathlib.Omega.{arith}
use native.Mathlib.Numerals.{add-one}
use native.Mathlib.Nat.{suc-add, pow-succ', div-one, div-div-eq-div-mul, div-eq_of_lt}
use borrow.Author.Tests.{ltb-true, ltb-false, lt-leb, eqb-true, eqb-false}
use lib.Dec.{leb, ltb, eqb, eqb-zero-suc, eqb-suc-zero, eqb-suc-suc}
use lib.Pow.{mod-pow-add, shr-shr}
use Rattle.rules.specs.Words.{between, bits, bit, with_bit, without_bit}
use Rattle.rules.specs.Machine.{owner, valid, permitted, grant, revoke, own, make_valid, make_invalid}
use Rattle.laws.proofs.Ranges.{by_test}
use Rattle.laws.proofs.Counts.{one}

-- ---- one bit put into a number

-- n with bit k made v: `put_bit true` is with_bit, and `put_bit false` without_bit
abbrev pub put_bit : Bool → ℕ → ℕ → ℕ
put_bit v k n = cond v (with_bit k n) (without_bit k n)

-- bit 0 is what halving leaves over
bit_zero : (n : ℕ) → bit 0 n ≡ eqb (n % 2) 1
unfolding bit
bit_zero n = rw div-one

-- the bits above bit 0 are those of the half
pub bit_suc : (k n : ℕ) → bit (suc k) n ≡ bit k (n / 2)
unfolding bit
bit_suc k n = rw (pow-succ', ← div-div-eq-div-mul)

-- the lowest bits of a number: those of the half, and what halving leaves over
mod_suc : (m n : ℕ) → n % 2 ^ suc m ≡ n / 2 % 2 ^ m * 2 + n % 2
mod_suc m n = rw (← add-one m) (mod-pow-add n m 1)

-- a number with bit k is at least 2 ^ k
pub bit_le : (k n : ℕ) → bit k n ≡ true → 2 ^ k ≤ n
unfolding bit
bit_le k n e =
    by_test (ltb n (2 ^ k)) (λ t. absurd (omega (arith, eqb-true, div-eq_of_lt (ltb-true n (2 ^ k) t)))) (ltb-false n (2 ^ k))

-- a put bit, halved
put_zero : (v : Bool) (n : ℕ) → (put_bit v 0 n % 2 ≡ one v) × (put_bit v 0 n / 2 ≡ n / 2)
unfolding with_bit without_bit bit
put_zero true n = by_test (bit 0 n) (λ t. rw t (omega (arith, eqb-true))) (λ t. rw t (omega (arith, eqb-false)))
put_zero false n = by_test (bit 0 n) (λ t. rw t (omega (arith, eqb-true))) (λ t. rw t (omega (arith, eqb-false)))

put_suc : (v : Bool) (k n : ℕ) → (put_bit v (suc k) n % 2 ≡ n % 2) × (put_bit v (suc k) n / 2 ≡ put_bit v k (n / 2))
unfolding with_bit without_bit
put_suc true k n = by_test (bit k (n / 2)) (λ t. simp (bit_suc, t) (refl, refl)) (λ t. simp (bit_suc, t) (omega arith))
put_suc false k n = by_test (bit k (n / 2)) (λ t. simp (bit_suc, t) (omega (arith, bit_le k (n / 2) t))) (λ t. simp (bit_suc, t) (refl, refl))

eqb_one : (v : Bool) → eqb (one v) 1 ≡ v
eqb_one true = refl
eqb_one false = refl

-- bit k is then v, and each other bit is as it was
pub bit_put : (v : Bool) (j k n : ℕ) → bit j (put_bit v k n) ≡ cond (eqb j k) v (bit j n)
bit_put v zero zero n = simp (bit_zero, (put_zero v n).0) (eqb_one v)
bit_put v zero (suc k) n = simp (bit_zero, (put_suc v k n).0, eqb-zero-suc)
bit_put v (suc j) zero n = simp (eqb-suc-zero, bit_suc, (put_zero v n).1)
bit_put v (suc j) (suc k) n = simp (eqb-suc-suc, bit_suc, (put_suc v k n).1) (bit_put v j k (n / 2))

-- so are the m bits below it, as a number
pub low_put : (v : Bool) (m k n : ℕ) → put_bit v (m + k) n % 2 ^ m ≡ n % 2 ^ m
low_put v zero k n = omega arith
low_put v (suc m) k n = simp (suc-add, mod_suc, (put_suc v (m + k) n).0, (put_suc v (m + k) n).1, low_put v m k (n / 2))

-- ---- grant and revoke as one: the permissions of VMPL 1, 2 and 3, each if `which` holds for it, made v

abbrev permit : Bool → (ℕ → Bool) → ℕ → ℕ
permit v which b =
    let step : ℕ → ℕ → ℕ = λ k x. cond (which k) (put_bit v (3 + k) x) x in
    step 3 (step 2 (step 1 b))

-- what each bit that is put keeps, the whole keeps
permit_keeps : (P : ℕ → Type 0) (v : Bool) (which : ℕ → Bool) → ((k n : ℕ) → k < 4 → P n → P (put_bit v (3 + k) n)) → (b : ℕ) → P b → P (permit v which b)
permit_keeps P v which put b h = step (which 3) 3 _ (omega arith) (step (which 2) 2 _ (omega arith) (step (which 1) 1 b (omega arith) h))
  where
    step : (t : Bool) (k n : ℕ) → k < 4 → P n → P (cond t (put_bit v (3 + k) n) n)
    step true k n h p = put k n h p
    step false k n h p = p

bit_step : (t v : Bool) (j k n : ℕ) → bit j (cond t (put_bit v k n) n) ≡ cond (eqb j k && t) v (bit j n)
bit_step true v j k n = simp (bit_put, and-true)
bit_step false v j k n = rw and-false

bit_permit : (v : Bool) (which : ℕ → Bool) (j b : ℕ)
    → bit j (permit v which b) ≡ cond (eqb j 6 && which 3) v (cond (eqb j 5 && which 2) v (cond (eqb j 4 && which 1) v (bit j b)))
bit_permit v which j b = simp bit_step

-- "A change of owner leaves bits 7:3", and those above
bit_own : (o j b : ℕ) → ltb o 8 ≡ true → bit (3 + j) (own o b) ≡ bit (3 + j) b
unfolding own bit
bit_own o j b h =
    let e : (b / 8 * 8 + o) / 8 ≡ b / 8 = omega (arith, ltb-true) in
    rw (← shr-shr (b / 8 * 8 + o) 3 j, ← shr-shr b 3 j, e)

-- ---- the owner. That o is below 8 is said by the test, which `refl` proves of a numeral

owner_put : (v : Bool) (k b : ℕ) → owner (put_bit v (3 + k) b) ≡ owner b
unfolding owner bits
owner_put v k b = simp div-one (low_put v 3 k b)

owner_permit : (v : Bool) (which : ℕ → Bool) (b : ℕ) → owner (permit v which b) ≡ owner b
owner_permit v which b = permit_keeps (λ x. owner x ≡ owner b) v which (λ k n h e. owner_put v k n ∙ e) b refl

-- grant keeps the owner
pub owner_grant : (c b : ℕ) → owner (grant c b) ≡ owner b
unfolding grant
owner_grant c = owner_permit true (λ v. leb v c)

-- revoke keeps the owner
pub owner_revoke : (b : ℕ) → owner (revoke b) ≡ owner b
unfolding revoke
owner_revoke = owner_permit false (λ v. true)

-- own makes the owner o
pub owner_own : (o b : ℕ) → ltb o 8 ≡ true → owner (own o b) ≡ o
unfolding owner bits own
owner_own o b h = omega (arith, ltb-true)

-- make_valid keeps the owner
pub owner_make_valid : (b : ℕ) → owner (make_valid b) ≡ owner b
unfolding make_valid
owner_make_valid = owner_put true 0

-- make_invalid keeps the owner
pub owner_make_invalid : (b : ℕ) → owner (make_invalid b) ≡ owner b
unfolding make_invalid
owner_make_invalid = owner_put false 0

-- ---- validity

-- grant keeps validity
pub valid_grant : (c b : ℕ) → valid (grant c b) ≡ valid b
unfolding grant valid
valid_grant c = bit_permit true (λ v. leb v c) 3

-- revoke keeps validity
pub valid_revoke : (b : ℕ) → valid (revoke b) ≡ valid b
unfolding revoke valid
valid_revoke = bit_permit false (λ v. true) 3

-- own keeps validity
pub valid_own : (o b : ℕ) → ltb o 8 ≡ true → valid (own o b) ≡ valid b
unfolding valid
valid_own o = bit_own o 0

-- make_valid makes a page valid
pub valid_make_valid : (b : ℕ) → valid (make_valid b) ≡ true
unfolding make_valid valid
valid_make_valid = bit_put true 3 3

-- make_invalid makes it not valid
pub valid_make_invalid : (b : ℕ) → valid (make_invalid b) ≡ false
unfolding make_invalid valid
valid_make_invalid = bit_put false 3 3

-- ---- bit 7

-- grant keeps bit 7
pub bit7_grant : (c b : ℕ) → bit 7 (grant c b) ≡ bit 7 b
unfolding grant
bit7_grant c = bit_permit true (λ v. leb v c) 7

-- revoke keeps bit 7
pub bit7_revoke : (b : ℕ) → bit 7 (revoke b) ≡ bit 7 b
unfolding revoke
bit7_revoke = bit_permit false (λ v. true) 7

-- own keeps bit 7
pub bit7_own : (o b : ℕ) → ltb o 8 ≡ true → bit 7 (own o b) ≡ bit 7 b
bit7_own o = bit_own o 4

-- make_valid keeps bit 7
pub bit7_make_valid : (b : ℕ) → bit 7 (make_valid b) ≡ bit 7 b
unfolding make_valid
bit7_make_valid = bit_put true 7 3

-- make_invalid keeps bit 7
pub bit7_make_invalid : (b : ℕ) → bit 7 (make_invalid b) ≡ bit 7 b
unfolding make_invalid
bit7_make_invalid = bit_put false 7 3

-- ---- the permission of a VMPL

-- it is one of three bits
permitted_by : (a : ℕ) (P : ℕ → Bool) → bit 4 a ≡ P 1 → bit 5 a ≡ P 2 → bit 6 a ≡ P 3 → (v : ℕ) → permitted v a ≡ (between 1 3 v && P v)
unfolding permitted between
permitted_by a P e f g zero = refl
permitted_by a P e f g (suc zero) = e
permitted_by a P e f g (suc (suc zero)) = f
permitted_by a P e f g (suc (suc (suc zero))) = g
permitted_by a P e f g (suc (suc (suc (suc v)))) = simp (lt-leb (suc (suc (suc (suc v)))) 3 (omega arith), and-false)

permitted_permit : (w : Bool) (which : ℕ → Bool) (v b : ℕ) → permitted v (permit w which b) ≡ (between 1 3 v && cond (which v) w (bit (3 + v) b))
permitted_permit w which v b =
    permitted_by (permit w which b) (λ v. cond (which v) w (bit (3 + v) b)) (bit_permit w which 4 b) (bit_permit w which 5 b) (bit_permit w which 6 b) v

permitted_put : (w : Bool) (v b : ℕ) → permitted v (put_bit w 3 b) ≡ permitted v b
unfolding permitted
permitted_put w v b = permitted_by (put_bit w 3 b) (λ v. bit (3 + v) b) (bit_put w 4 3 b) (bit_put w 5 3 b) (bit_put w 6 3 b) v

share : (a t x : Bool) → (a && cond t true x) ≡ (a && t || a && x)
share true true x = refl
share true false x = refl
share false t x = refl

-- grant c gives it to VMPL 1 to c
pub permitted_grant : (v c b : ℕ) → permitted v (grant c b) ≡ (between 1 3 v && leb v c || permitted v b)
unfolding grant permitted
permitted_grant v c b = permitted_permit true (λ v. leb v c) v b ∙ share (between 1 3 v) (leb v c) (bit (3 + v) b)

-- revoke takes it from each
pub permitted_revoke : (v b : ℕ) → permitted v (revoke b) ≡ false
unfolding revoke
permitted_revoke v b = permitted_permit false (λ v. true) v b ∙ and-false (between 1 3 v)

-- own keeps the permission
pub permitted_own : (v o b : ℕ) → ltb o 8 ≡ true → permitted v (own o b) ≡ permitted v b
unfolding permitted
permitted_own v o b h = rw bit_own

-- make_valid keeps it
pub permitted_make_valid : (v b : ℕ) → permitted v (make_valid b) ≡ permitted v b
unfolding make_valid
permitted_make_valid = permitted_put true

-- make_invalid keeps it
pub permitted_make_invalid : (v b : ℕ) → permitted v (make_invalid b) ≡ permitted v b
unfolding make_invalid
permitted_make_invalid = permitted_put false

-- ---- all permissions

one_eqb : (n : ℕ) → one (eqb (n % 2) 1) ≡ n % 2
one_eqb n = by_test (eqb (n % 2) 1) (λ t. rw t (omega (arith, eqb-true))) (λ t. rw t (omega (arith, eqb-false)))

one_zero : (t : Bool) → one t ≡ 0 → t ≡ false
one_zero true e = absurd (omega arith)
one_zero false e = refl

-- bits 6:4 are the three permissions
pub permissions : (b : ℕ) → bits 6 4 b ≡ one (permitted 1 b) + 2 * one (permitted 2 b) + 4 * one (permitted 3 b)
unfolding bits permitted between bit
permissions b =
    let x : ℕ = b / 16 in
    rw (← div-div-eq-div-mul b 32 2, ← div-div-eq-div-mul b 16 2)
    (omega (arith, mod_suc 2 x, mod_suc 1 (x / 2), one_eqb x, one_eqb (x / 2), one_eqb (x / 2 / 2)))

-- where they are 0 no VMPL has any
pub none→ : (v b : ℕ) → bits 6 4 b ≡ 0 → permitted v b ≡ false
unfolding permitted between
none→ v b e =
    let off : (k : ℕ) → one (bit k b) ≡ 0 → bit k b ≡ false = λ k. one_zero (bit k b) in
    let h = permissions b in
    permitted_by b (λ v. false) (off 4 (omega arith)) (off 5 (omega arith)) (off 6 (omega arith)) v ∙ and-false (between 1 3 v)

-- revoke leaves none
pub none_revoke : (b : ℕ) → bits 6 4 (revoke b) ≡ 0
none_revoke b = simp (permissions, permitted_revoke)

-- own keeps them
pub permissions_own : (o b : ℕ) → ltb o 8 ≡ true → bits 6 4 (own o b) ≡ bits 6 4 b
permissions_own o b h = simp (permissions, permitted_own)

-- make_valid keeps them
pub permissions_make_valid : (b : ℕ) → bits 6 4 (make_valid b) ≡ bits 6 4 b
permissions_make_valid b = simp (permissions, permitted_make_valid)

-- make_invalid keeps them
pub permissions_make_invalid : (b : ℕ) → bits 6 4 (make_invalid b) ≡ bits 6 4 b
permissions_make_invalid b = simp (permissions, permitted_make_invalid)

-- each field of a changed byte
pub ruleset byte·simp = (
  owner_grant,
  owner_revoke,
  owner_own,
  owner_make_valid,
  owner_make_invalid,
  valid_grant,
  valid_revoke,
  valid_own,
  valid_make_valid,
  valid_make_invalid,
  bit7_grant,
  bit7_revoke,
  bit7_own,
  bit7_make_valid,
  bit7_make_invalid,
  permitted_grant,
  permitted_revoke,
  permitted_own,
  permitted_make_valid,
  permitted_make_invalid,
  none_revoke,
  permissions_own,
  permissions_make_valid,
  permissions_make_invalid,
)
