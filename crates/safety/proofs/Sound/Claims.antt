-- Laws of the claims on a page: what a record claims, the claims after one record changed, and what an owner that agrees with them says.
use mathlib.Core.Path.{◌≡◌, refl, sym, ◌∙◌, ap}
use mathlib.Core.Bool.{Bool, true, false, cond, ◌&&◌, ◌||◌, true≢false, or-true, and-eq-true_iff}
use mathlib.Core.List.{List, [], ◌∷◌, ◌++◌, append_assoc, append-nil}
use Prim.Native.Nat.{ℕ, suc, ◌+◌, ◌<◌}
use native.Mathlib.Omega.{arith}
use lib.Dec.{eqb}
use lib.ListN.{length, get_or, take, drop, set, length-append}
use lib.Seq.{split_at, set_split, get_or-set_other, lt-length-set}
use borrow.Author.Tests.{eqb-true, eqb-false, eq-eqb}
use Rattle.rules.specs.Words.{every, exists}
use Rattle.rules.specs.Machine.{fields, is_live, holds}
use Rattle.rules.specs.Sound.{claim, claims, agrees}
use Rattle.laws.proofs.Ranges.{by_test, every_append, exists_append}
use Rattle.safety.proofs.Small.{empty, inhabited}

-- ---- what one record claims

-- owner o, if it is said
abbrev pub says : Bool → ℕ → List ℕ
says b o = cond b (o ∷ []) []

module _ (r : List ℕ) (p : ℕ) where
  -- a record that is not live claims nothing
  pub claim_dead : is_live r ≡ false → claim r p ≡ []
  unfolding claim
  claim_dead e = rw e

  -- a live one claims 5 at its VMSA, 1 at its calling page, 4 at its pool page if it holds one
  pub claim_live : is_live r ≡ true
      → claim r p ≡ says (eqb (fields r).vmsa p) 5 ++ says (eqb (fields r).calling p) 1 ++ says (holds r && eqb (fields r).pool p) 4
  unfolding claim
  claim_live e = rw e

  -- and nothing at any other page
  pub claim_other : eqb (fields r).vmsa p ≡ false → eqb (fields r).calling p ≡ false → (holds r && eqb (fields r).pool p) ≡ false → claim r p ≡ []
  claim_other e f g = by_test (is_live r) (λ t. rw (claim_live t, e, f, g)) claim_dead

-- at its VMSA
pub claim_vmsa : (r : List ℕ) → is_live r ≡ true → exists (eqb 5) (claim r (fields r).vmsa) ≡ true
unfolding exists
claim_vmsa r e = rw (claim_live r (fields r).vmsa e, eq-eqb (fields r).vmsa (fields r).vmsa refl)

-- at its calling page
pub claim_calling : (r : List ℕ) → is_live r ≡ true → exists (eqb 1) (claim r (fields r).calling) ≡ true
unfolding exists
claim_calling r e =
    let p = (fields r).calling in
    let v = says (eqb (fields r).vmsa p) 5 in
    let says_one : (b : Bool) → exists (eqb 1) (says b 5 ++ (1 ∷ [])) ≡ true = λ b. by_test b (λ t. rw t) (λ t. rw t) in
    let last = says (holds r && eqb (fields r).pool p) 4 in
    rw (claim_live r p e, eq-eqb p p refl, exists_append (eqb 1) (v ++ (1 ∷ [])) last, says_one (eqb (fields r).vmsa p))

-- at its pool page
pub claim_pool : (r : List ℕ) → is_live r ≡ true → holds r ≡ true → exists (eqb 4) (claim r (fields r).pool) ≡ true
unfolding exists
claim_pool r e h =
    let p = (fields r).pool in
    let front = says (eqb (fields r).vmsa p) 5 ++ says (eqb (fields r).calling p) 1 in
    rw (claim_live r p e, eq-eqb p p refl, h, exists_append (eqb 4) front (4 ∷ [])) (or-true (exists (eqb 4) front))

-- ---- the claims of a sheet

-- two sheets in a row
pub claims_append : (xs ys : List (List ℕ)) (p : ℕ) → claims (xs ++ ys) p ≡ claims xs p ++ claims ys p
unfolding claims
claims_append [] ys p = refl
claims_append (x ∷ xs) ys p = rw (claims_append xs ys p) (sym (append_assoc (claim x p) (claims xs p) (claims ys p)))

-- the claims of the records before record i
unfoldable pub claims_before : ℕ → List (List ℕ) → ℕ → List ℕ
claims_before i sheet p = claims (take i sheet) p

-- and of those after it
unfoldable pub claims_after : ℕ → List (List ℕ) → ℕ → List ℕ
claims_after i sheet p = claims (drop (suc i) sheet) p

module _ (sheet : List (List ℕ)) (i : ℕ) (p : ℕ) (h : i < length sheet) where
  -- record i's claim stands between them
  pub claims_split : claims sheet p ≡ claims_before i sheet p ++ (claim (get_or sheet i []) p ++ claims_after i sheet p)
  unfolding claims claims_before claims_after
  claims_split = ap (λ s. claims s p) (split_at sheet i [] h) ∙ claims_append (take i sheet) (get_or sheet i [] ∷ drop (suc i) sheet) p

  -- and so does a new record's
  pub claims_set : (r : List ℕ) → claims (set sheet i r) p ≡ claims_before i sheet p ++ (claim r p ++ claims_after i sheet p)
  unfolding claims claims_before claims_after
  claims_set r = ap (λ s. claims s p) (set_split sheet i r h) ∙ claims_append (take i sheet) (r ∷ drop (suc i) sheet) p

  -- a record that claims the same leaves the claims as they were
  pub claims_same : (r : List ℕ) → claim r p ≡ claim (get_or sheet i []) p → claims (set sheet i r) p ≡ claims sheet p
  claims_same r e = claims_set r ∙ ap (λ c. claims_before i sheet p ++ (c ++ claims_after i sheet p)) e ∙ sym claims_split

  -- what record i claims is claimed
  pub claimed : (c : ℕ) → exists (eqb c) (claim (get_or sheet i []) p) ≡ true → exists (eqb c) (claims sheet p) ≡ true
  claimed c e =
      let before = claims_before i sheet p in
      let mine = claim (get_or sheet i []) p in
      rw (claims_split, exists_append (eqb c) before (mine ++ claims_after i sheet p), exists_append (eqb c) mine (claims_after i sheet p), e)
      (or-true (exists (eqb c) before))

  -- how many claims there are
  pub claims_sizes : length (claims sheet p)
      ≡ length (claims_before i sheet p) + (length (claim (get_or sheet i []) p) + length (claims_after i sheet p))
  claims_sizes =
      let before = claims_before i sheet p in
      let mine = claim (get_or sheet i []) p in
      let after = claims_after i sheet p in
      ap length claims_split ∙ length-append before (mine ++ after) ∙ ap (λ (n : ℕ). length before + n) (length-append mine after)

  -- where record i alone claims a page, the new record alone does
  pub claims_alone : claims sheet p ≡ claim (get_or sheet i []) p → (r : List ℕ) → claims (set sheet i r) p ≡ claim r p
  claims_alone e r =
      let before = claims_before i sheet p in
      let mine = claim (get_or sheet i []) p in
      let after = claims_after i sheet p in
      let sizes : length mine ≡ length before + (length mine + length after) = ap length (sym e) ∙ claims_sizes in
      rw (claims_set r, empty before (omega arith), empty after (omega arith)) (append-nil (claim r p))

-- ---- owners that agree with the claims

-- one claim that an owner agrees with is the only one, and is the owner
pub agreed_one : (cs : List ℕ) (c o : ℕ) → exists (eqb c) cs ≡ true → agrees cs o ≡ true → (cs ≡ c ∷ []) × (o ≡ c)
unfolding exists agrees
agreed_one [] c o e a = absurd (true≢false (sym e))
agreed_one (d ∷ []) c o e a =
    let same : c ≡ d = by_test (eqb c d) (λ t. eqb-true c d t) (λ t. absurd (true≢false (sym (rw t at e)))) in
    (rw same refl, eqb-true o d a ∙ sym same)
agreed_one (d ∷ b ∷ bs) c o e a = absurd (true≢false (sym a))

-- the owners that are claimed: 5, 1 and 4
unfoldable pub nameable : ℕ → Bool
nameable c = eqb c 5 || eqb c 1 || eqb c 4

claim_nameable : (r : List ℕ) (p : ℕ) → every nameable (claim r p) ≡ true
unfolding every nameable
claim_nameable r p =
    let one : (o : ℕ) → nameable o ≡ true → (b : Bool) → every nameable (says b o) ≡ true = λ o e b. by_test b (λ t. rw (t, e)) (λ t. rw t) in
    by_test (is_live r) (λ t. simp (claim_live r p t, every_append, one 5 refl, one 1 refl, one 4 refl)) (λ t. rw (claim_dead r p t))

-- each claim is one of them
pub claims_nameable : (sheet : List (List ℕ)) (p : ℕ) → every nameable (claims sheet p) ≡ true
unfolding claims every
claims_nameable [] p = refl
claims_nameable (r ∷ rs) p = rw (every_append nameable (claim r p) (claims rs p), claim_nameable r p, claims_nameable rs p)

-- where the owner is none of them, nothing is claimed
pub agreed_none : (cs : List ℕ) (o : ℕ) → every nameable cs ≡ true → nameable o ≡ false → agrees cs o ≡ true → cs ≡ []
unfolding agrees every
agreed_none [] o e n a = refl
agreed_none (c ∷ []) o e n a =
    absurd (true≢false (sym ((and-eq-true_iff (nameable c) true).0 e).0 ∙ ap nameable (sym (eqb-true o c a)) ∙ n))
agreed_none (c ∷ d ∷ ds) o e n a = absurd (true≢false (sym a))

-- the same of a sheet's claims
pub unclaimed : (sheet : List (List ℕ)) (p o : ℕ) → nameable o ≡ false → agrees (claims sheet p) o ≡ true → claims sheet p ≡ []
unclaimed sheet p o n a = agreed_none (claims sheet p) o (claims_nameable sheet p) n a

-- ---- a page that record i claims, and a page that nobody claims

module _ (sheet : List (List ℕ)) (i : ℕ) (p o : ℕ) (h : i < length sheet) (a : agrees (claims sheet p) o ≡ true) where
  -- the owner is what record i claims
  pub claimed_owner : (c : ℕ) → exists (eqb c) (claim (get_or sheet i []) p) ≡ true → o ≡ c
  claimed_owner c e = (agreed_one (claims sheet p) c o (claimed sheet i p h c e) a).1

  -- record i alone claims it
  pub claimed_alone : (c : ℕ) → exists (eqb c) (claim (get_or sheet i []) p) ≡ true → claims sheet p ≡ claim (get_or sheet i []) p
  claimed_alone c e =
      let before = claims_before i sheet p in
      let mine = claim (get_or sheet i []) p in
      let after = claims_after i sheet p in
      let one : length (claims sheet p) ≡ 1 = ap length (agreed_one (claims sheet p) c o (claimed sheet i p h c e) a).0 in
      let sizes = claims_sizes sheet i p h in
      let some = inhabited (eqb c) mine e in
      rw (claims_split sheet i p h, empty before (omega arith), empty after (omega arith)) (append-nil mine)

  -- what another record claims is another page
  pub claimed_once : (j c d : ℕ) → j < length sheet → exists (eqb c) (claim (get_or sheet i []) p) ≡ true
      → exists (eqb d) (claim (get_or sheet j []) p) ≡ true → i ≡ j
  unfolding exists is_live fields
  claimed_once j c d k e f =
      by_test (eqb i j) (eqb-true i j)
      (λ t.
      let still : exists (eqb d) (claim (get_or (set sheet i []) j []) p) ≡ true
      = rw (get_or-set_other sheet i j [] [] (λ z. eqb-false i j t (sym z))) f in
      let gone = claims_alone sheet i p h (claimed_alone c e) [] ∙ claim_dead [] p refl in
      absurd (true≢false (sym (rw gone at (claimed (set sheet i []) j p (lt-length-set sheet i [] k) d still)))))

  -- where the owner is not claimed, record i claims nothing, and nobody does
  pub unclaimed_alone : nameable o ≡ false → claims sheet p ≡ claim (get_or sheet i []) p
  unclaimed_alone n =
      let none : length (claims sheet p) ≡ 0 = ap length (unclaimed sheet p o n a) in
      rw (empty (claim (get_or sheet i []) p) (omega (arith, claims_sizes sheet i p h))) (unclaimed sheet p o n a)
