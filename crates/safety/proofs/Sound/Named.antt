-- The pages that records name, in the words of the sentences, are those that they claim.
use mathlib.Core.Path.{◌≡◌, refl, sym}
use mathlib.Core.Bool.{Bool, true, false, ◌&&◌, true≢false, and-eq-true_iff}
use mathlib.Core.List.{List, [], ◌∷◌, ◌++◌}
use Prim.Native.Nat.{ℕ, suc, ◌<◌}
use native.Mathlib.Omega.{arith}
use lib.Dec.{ltb, eqb}
use lib.ListN.{length, get_or, get_or-eq_default}
use borrow.Author.Tests.{eqb-true, ltb-true, ltb-false, eq-eqb}
use Rattle.rules.specs.Words.{exists}
use Rattle.rules.specs.Machine.{Lent, fields, is_live, holds, record_at, vcpu}
use Rattle.rules.specs.Sound.{claim, claims}
use Rattle.laws.proofs.Ranges.{by_test, exists_append}
use Rattle.safety.specs.Sentences.{Live, Names, as_vmsa, as_calling, as_held}
use Rattle.safety.proofs.Sound.Claims.{says, claim_dead, claim_live, claim_vmsa, claim_calling, claim_pool}

-- one of two lists has what both in a row have
in_either : {C : Type 0} (c : ℕ) (xs ys : List ℕ) → exists (eqb c) (xs ++ ys) ≡ true
    → (exists (eqb c) xs ≡ true → C) → (exists (eqb c) ys ≡ true → C) → C
in_either c xs ys e f g = by_test (exists (eqb c) xs) f (λ t. g (rw (exists_append (eqb c) xs ys, t) at e))

-- owner c, found where o is said if at all: it is said, and c is o
found : (b : Bool) (c o : ℕ) → exists (eqb c) (says b o) ≡ true → (b ≡ true) × (c ≡ o)
unfolding exists
found true c o e = (refl, by_test (eqb c o) (λ t. eqb-true c o t) (λ t. absurd (true≢false (sym (rw t at e)))))
found false c o e = absurd (true≢false (sym e))

-- a claim of a sheet is one of its records'
pub claimant : (sheet : List (List ℕ)) (p c : ℕ) → exists (eqb c) (claims sheet p) ≡ true
    → (i : ℕ) × (i < length sheet) × (exists (eqb c) (claim (get_or sheet i []) p) ≡ true)
unfolding claims exists
claimant [] p c e = absurd (true≢false (sym e))
claimant (r ∷ rs) p c e =
    in_either c (claim r p) (claims rs p) e (λ here. (0, omega arith, here))
    (λ there. let later = claimant rs p c there in (suc later.0, omega (arith, later.1), later.2))

-- live, as the sentences and as the rules say it
pub live→ : (m : Lent) (i : ℕ) → Live m i → is_live (record_at m i) ≡ true
unfolding Live is_live vcpu
live→ m i e = eq-eqb _ _ e

pub →live : (m : Lent) (i : ℕ) → is_live (record_at m i) ≡ true → Live m i
unfolding Live is_live vcpu
→live m i e = eqb-true _ _ e

-- past the sheet's end nothing is live
pub live_inside : (m : Lent) (i : ℕ) → Live m i → i < length m.sheet
unfolding Live vcpu record_at fields
live_inside m i l =
    by_test (ltb i (length m.sheet)) (ltb-true _ _)
    (λ t. absurd (omega (arith, rw (get_or-eq_default m.sheet [] (ltb-false _ _ t)) at l)))

module _ (m : Lent) (i p : ℕ) where
  -- what a live record names it claims
  pub names→ : (o : ℕ) → Live m i → Names m i p o → exists (eqb o) (claim (record_at m i) p) ≡ true
  unfolding vcpu holds
  names→ _ l (as_vmsa e) = rw (← e) (claim_vmsa (record_at m i) (live→ m i l))
  names→ _ l (as_calling e) = rw (← e) (claim_calling (record_at m i) (live→ m i l))
  names→ _ l (as_held h e) = rw (← e) (claim_pool (record_at m i) (live→ m i l) (eq-eqb _ _ h))

  module _ (o : ℕ) (live : is_live (record_at m i) ≡ true) where
    claimed_named : exists (eqb o) (claim (record_at m i) p) ≡ true → Names m i p o
    unfolding vcpu holds
    claimed_named e =
        let r = record_at m i in
        let v = fields r in
        let five = says (eqb v.vmsa p) 5 in
        let one = says (eqb v.calling p) 1 in
        let four = says (holds r && eqb v.pool p) 4 in
        in_either o (five ++ one) four (rw (claim_live r p live) at e)
        (λ front.
        in_either o five one front
        (λ h. let t = found (eqb v.vmsa p) o 5 h in rw t.1 (as_vmsa (eqb-true _ _ t.0)))
        (λ h. let t = found (eqb v.calling p) o 1 h in rw t.1 (as_calling (eqb-true _ _ t.0))))
        (λ h.
        let t = found (holds r && eqb v.pool p) o 4 h in
        let both = (and-eq-true_iff (holds r) (eqb v.pool p)).0 t.0 in
        rw t.1 (as_held (eqb-true _ _ both.0) (eqb-true _ _ both.1)))

  -- and what a record claims it names, live
  pub →names : (o : ℕ) → exists (eqb o) (claim (record_at m i) p) ≡ true → Live m i × Names m i p o
  unfolding exists
  →names o e =
      by_test (is_live (record_at m i)) (λ t. (→live m i t, claimed_named o t e))
      (λ t. absurd (true≢false (sym (rw (claim_dead (record_at m i) p t) at e))))
