-- The sentences of document 01 suffice: a machine of which they all hold is sound.
use mathlib.Core.Path.{◌≡◌, refl, sym, ◌∙◌, ap}
use mathlib.Core.Logic.{◌⊎◌, inl, inr}
use mathlib.Core.Bool.{Bool, true, false, cond, ◌&&◌, ◌||◌, true≢false, and-eq-true_iff}
use mathlib.Core.List.{List, [], ◌∷◌, ◌++◌}
use Prim.Native.Nat.{ℕ, zero, suc, ◌<◌, ◌≤◌}
use native.Mathlib.Omega.{arith}
use lib.Dec.{leb, ltb, eqb}
use lib.ListN.{length, get_or, length-append}
use borrow.Author.Tests.{eqb-true, eqb-false, leb-true, leb-false, ltb-false, eq-eqb, le-leb}
use Rattle.rules.specs.Words.{page_size, records, record_size, records_without_pool, between, exists, count}
use Rattle.rules.specs.Machine.{Lent, N, page_at, owner, valid, permitted, table_byte, fields, is_live, holds, needs_page, record_at, vcpu, startup}
use Rattle.rules.specs.Sound.{claim, claims, agrees, well_permitted, record_fault, table_sized, pages_sized}
use Rattle.laws.proofs.Ranges.{by_test, →every}
use Rattle.laws.proofs.TableByte.{permissions}
use Rattle.safety.specs.Sentences.{Live, Named, SoundMachine}
use Rattle.safety.proofs.Small.{counted, once_counted}
use Rattle.safety.proofs.Sound.Facts.{PageRight, Sound}
use Rattle.safety.proofs.Sound.Claims.{says, claim_dead, claim_live, claimed}
use Rattle.safety.proofs.Sound.Rows.{has_apic, own_apic, RowRight, close_row, close_dead}
use Rattle.safety.proofs.Sound.Named.{claimant, live_inside, live→, →live, names→, →names}

-- ---- a page that is claimed no more than once

-- a record claims it once, unless it claims it as two
said_once : (a b c : Bool) →
    let cs = says a 5 ++ says b 1 ++ says c 4 in
    ((o q : ℕ) → exists (eqb o) cs ≡ true → exists (eqb q) cs ≡ true → o ≡ q) → length cs ≤ 1
unfolding exists
said_once true true c f = absurd (omega (arith, f 5 1 refl refl))
said_once true false true f = absurd (omega (arith, f 5 4 refl refl))
said_once true false false f = omega arith
said_once false true true f = absurd (omega (arith, f 1 4 refl refl))
said_once false true false f = omega arith
said_once false false true f = omega arith
said_once false false false f = omega arith

claim_once : (r : List ℕ) (p : ℕ) → ((o q : ℕ) → exists (eqb o) (claim r p) ≡ true → exists (eqb q) (claim r p) ≡ true → o ≡ q)
    → length (claim r p) ≤ 1
claim_once r p f =
    by_test (is_live r)
    (λ t.
    let live = claim_live r p t in
    let v = fields r in
    rw live (said_once (eqb v.vmsa p) (eqb v.calling p) (holds r && eqb v.pool p) (rw live at f)))
    (λ t. rw (claim_dead r p t) (omega arith))

-- the first of a list that is not empty is one of its elements
first_of : (xs : List ℕ) → ltb 0 (length xs) ≡ true → (c : ℕ) × (exists (eqb c) xs ≡ true)
unfolding exists
first_of [] h = absurd (true≢false (sym h))
first_of (x ∷ xs) h = (x, rw (eq-eqb x x refl))

-- a record that claims it
abbrev claiming : ℕ → List ℕ → Bool
claiming p r = ltb 0 (length (claim r p))

-- where each claims it once at most, there are no more claims than such records
claims_counted : (sheet : List (List ℕ)) (p : ℕ) → ((i : ℕ) → i < length sheet → length (claim (get_or sheet i []) p) ≤ 1)
    → length (claims sheet p) ≤ count (claiming p) sheet
unfolding claims count
claims_counted [] p f = omega arith
claims_counted (r ∷ rs) p f =
    let sizes = length-append (claim r p) (claims rs p) in
    let rest = claims_counted rs p (λ i h. f (suc i) (omega arith)) in
    by_test (claiming p r) (λ t. rw t (omega (arith, f 0 (omega arith)))) (λ t. rw t (omega (arith, ltb-false 0 (length (claim r p)) t)))

-- an owner up to 5 that is none of 5, 1 and 4
rest_of : (o : ℕ) → o ≤ 5 → ((o ≡ 5) ⊎ ((o ≡ 1) ⊎ (o ≡ 4)) → ⊥) → (eqb o 0 || eqb o 2 || eqb o 3) ≡ true
rest_of o most f =
    by_test (eqb o 0) (λ t. rw t)
    (λ x.
    by_test (eqb o 2) (λ t. rw (x, t))
    (λ y. rw (x, y) (eq-eqb o 3 (rest (eqb-false o 0 x) (eqb-false o 2 y) (λ e. f (inl e)) (λ e. f (inr (inl e))) (λ e. f (inr (inr e)))))))
  where
    rest : (o ≡ 0 → ⊥) → (o ≡ 2 → ⊥) → (o ≡ 5 → ⊥) → (o ≡ 1 → ⊥) → (o ≡ 4 → ⊥) → o ≡ 3
    rest a b c d e = omega arith

plain_or_calling : (o : ℕ) → o ≤ 1 → (o ≡ 0) ⊎ (o ≡ 1)
plain_or_calling zero h = inl refl
plain_or_calling (suc o) h = inr (omega arith)

-- ---- the machine

module _ (m : Lent) (s : SoundMachine m) where
  tables : table_sized m ≡ true
  unfolding table_sized between record_at
  tables =
      rw (
        le-leb _ _ s.least,
        le-leb _ _ s.most,
        eq-eqb _ _ s.sheet,
        →every (λ r. eqb (length r) record_size) m.sheet [] (λ i h. eq-eqb _ _ (s.rows i (omega (arith, s.sheet)))),
      )

  memories : pages_sized m ≡ true
  unfolding pages_sized page_at
  memories =
      rw (
        eq-eqb _ _ s.memory,
        →every (λ page. eqb (length page) page_size) m.memory [] (λ p h. eq-eqb _ _ (s.pages p (omega (arith, s.memory)))),
      )

  -- no page is claimed twice
  few_claims : (p : ℕ) → length (claims m.sheet p) ≤ 1
  unfolding record_at
  few_claims p =
      let claims_few = claims_counted m.sheet p (λ i h. claim_once (record_at m i) p (λ o q a b.
      let x = →names m i p o a in
      let y = →names m i p q b in
      (s.once i i p o q x.0 y.0 x.1 y.1).1)) in
      let claimants_few = once_counted (claiming p) m.sheet [] (λ i j h k a b.
      let c = first_of (claim (record_at m i) p) a in
      let d = first_of (claim (record_at m j) p) b in
      let x = →names m i p c.0 c.1 in
      let y = →names m j p d.0 d.1 in
      (s.once i j p c.0 d.0 x.0 y.0 x.1 y.1).0) in
      omega arith

  module _ (p : ℕ) (h : p < N m) where
    abbrev byte : ℕ
    byte = table_byte m p

    -- a page that a live record names is claimed
    named_claimed : Named m p (owner byte) → exists (eqb (owner byte)) (claims m.sheet p) ≡ true
    unfolding record_at
    named_claimed n =
        claimed m.sheet n.by p (live_inside m n.by n.live) (owner byte) (names→ m n.by p (owner byte) n.live n.naming)

    -- a page that is claimed has the owner claimed
    claimed_owned : (c : ℕ) → exists (eqb c) (claims m.sheet p) ≡ true → owner byte ≡ c
    unfolding record_at
    claimed_owned c e =
        let i = claimant m.sheet p c e in
        let naming = →names m i.0 p c i.2 in
        s.owned i.0 p c naming.0 naming.1

    -- the owner agrees with what is claimed
    agreed_by : (cs : List ℕ) → claims m.sheet p ≡ cs → agrees cs (owner byte) ≡ true
    unfolding agrees exists
    agreed_by [] e = rest_of (owner byte) (s.owners p h) (λ n. absurd (true≢false (sym (rw e at (named_claimed (s.named p h n))))))
    agreed_by (c ∷ []) e = eq-eqb _ _ (claimed_owned c (rw (e, eq-eqb c c refl)))
    agreed_by (c ∷ d ∷ ds) e = absurd (omega (arith, few_claims p, ap length e))

    validated : (eqb (owner byte) 0 || valid byte) ≡ true
    validated = by_test (eqb (owner byte) 0) (λ t. rw t) (λ t. rw t (s.validity p h (eqb-false _ _ t)))

    -- why a page carries no permission
    why_bare : (valid byte && leb (owner byte) 1) ≡ false → ((2 ≤ owner byte) × (owner byte ≤ 5)) ⊎ (valid byte ≡ false)
    why_bare e = by_test (valid byte) (λ t. inl (leb-false _ _ (rw t at e), s.owners p h)) inr

    allowed : well_permitted (startup m).vmpl byte ≡ true
    unfolding well_permitted
    allowed =
        by_test (valid byte && leb (owner byte) 1)
        (λ t.
        let both = (and-eq-true_iff (valid byte) (leb (owner byte) 1)).0 t in
        rw t (s.carried p h (plain_or_calling _ (leb-true _ _ both.1)) both.0))
        (λ t.
        let off : (c : ℕ) → permitted c byte ≡ false = λ c. s.sealed p c h (why_bare t) in
        rw (t, permissions byte, off 1, off 2, off 3))

    right : PageRight (startup m).vmpl (claims m.sheet p) byte
    right = record { agreed = agreed_by (claims m.sheet p) refl; validated = validated; allowed = allowed }

  module _ (i : ℕ) (l : Live m i) where
    -- its APIC ID is counted once
    apic_once : count (has_apic (vcpu m i).apic) m.sheet ≡ 1
    unfolding vcpu record_at
    apic_once =
        let a = (vcpu m i).apic in
        let some = counted (has_apic a) m.sheet i [] (live_inside m i l) (own_apic m i (live→ m i l)) in
        let most = once_counted (has_apic a) m.sheet [] (λ j k b c x y.
        let of_j = (and-eq-true_iff (is_live (record_at m j)) (eqb (vcpu m j).apic a)).0 x in
        let of_k = (and-eq-true_iff (is_live (record_at m k)) (eqb (vcpu m k).apic a)).0 y in
        s.apart j k (→live m j of_j.0) (→live m k of_k.0) (eqb-true _ _ of_j.1 ∙ sym (eqb-true _ _ of_k.1))) in
        omega arith

    holding : (vcpu m i).holding ≡ cond (needs_page i) 1 0
    unfolding needs_page records_without_pool
    holding =
        by_test (needs_page i) (λ t. rw t (s.holders i l (leb-true _ _ t))) (λ t. rw t (s.first_four i (leb-false _ _ t)))

    row : RowRight (N m) (startup m).vmpl i m.sheet (vcpu m i)
    row =
        let below = s.names_below i l in
        record {
          running = s.running_byte i;
          least = below.least_vmpl;
          most = below.most_vmpl;
          vmsa = below.vmsa;
          calling = below.calling;
          pool = below.pool;
          holding = holding;
          no_pool = (s.layout i).pool;
          spare = (s.layout i).spare;
          features = λ ne. (s.layout i).features (omega arith);
          once = apic_once;
          rank = s.above i l;
        }

  faultless : (i : ℕ) → i < records → record_fault m i ≡ false
  faultless i h =
      by_test (is_live (record_at m i)) (λ t. close_row m i (row i (→live m i t)) t)
      (λ t.
      let dead : Live m i → ⊥ = λ l. true≢false (sym (live→ m i l) ∙ t) in
      close_dead m i (s.blank i h dead) (λ e. dead (rw e s.startup_live)))

  -- sound
  pub suffices : Sound m
  suffices = record { tables = tables; memories = memories; pages = right; rows = faultless }
