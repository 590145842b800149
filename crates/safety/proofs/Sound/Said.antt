-- What `sound` says, as the sentences of document 01: each of them holds of a sound machine.
use mathlib.Core.Path.{◌≡◌, sym, ◌∙◌}
use mathlib.Core.Logic.{◌⊎◌, inl, inr}
use mathlib.Core.Bool.{true, false, ◌&&◌, ◌||◌, true≢false, and-eq-true_iff, and-false}
use mathlib.Core.List.{List, [], ◌∷◌}
use Prim.Native.Nat.{ℕ, ◌<◌, ◌≤◌}
use native.Mathlib.Omega.{arith}
use lib.Dec.{leb, ltb, eqb}
use lib.ListN.{get_or-eq_default}
use borrow.Author.Tests.{eqb-true, ltb-true, ltb-false, eq-eqb, lt-leb, le-leb}
use Rattle.rules.specs.Words.{records, record_size, bits, records_without_pool, every, exists}
use Rattle.rules.specs.Machine.{Lent, N, owner, valid, permitted, table_byte, is_live, holds, needs_page, record_at, vcpu, startup, zeros}
use Rattle.rules.specs.Sound.{claims, agrees, well_permitted}
use Rattle.laws.proofs.Ranges.{by_test}
use Rattle.laws.proofs.Counts.{one_le}
use Rattle.laws.proofs.TableByte.{none→}
use Rattle.laws.proofs.Records.{fields_zeros}
use Rattle.safety.specs.Sentences.{Live, Names, as_vmsa, as_calling, as_held, Named, NamesBelow, Layout, SoundMachine}
use Rattle.safety.proofs.Small.{fails, counted_once}
use Rattle.safety.proofs.Sound.Facts.{Sound}
use Rattle.safety.proofs.Sound.Sizes.{enough_pages, few_pages, sheet_length, record_length, memory_sizes, page_there, page_whole}
use Rattle.safety.proofs.Sound.Claims.{nameable, claims_nameable, claimed_once}
use Rattle.safety.proofs.Sound.Rows.{has_apic, own_apic, RowRight, row_right, startup_lives, dead_zeros, vmsa_owned, calling_owned, pool_owned}
use Rattle.safety.proofs.Sound.OnePage.{owned_valid, carried}
use Rattle.safety.proofs.Sound.Named.{claimant, live_inside, live→, →live, names→, →names}

-- an owner that agrees with the claims on a page and is 5, 1 or 4 is claimed
agreed_named : (cs : List ℕ) (o : ℕ) → (o ≡ 5) ⊎ ((o ≡ 1) ⊎ (o ≡ 4)) → agrees cs o ≡ true → exists (eqb o) cs ≡ true
unfolding agrees exists
agreed_named [] o (inl e) a = absurd (true≢false (sym (rw e at a)))
agreed_named [] o (inr (inl e)) a = absurd (true≢false (sym (rw e at a)))
agreed_named [] o (inr (inr e)) a = absurd (true≢false (sym (rw e at a)))
agreed_named (c ∷ []) o n a = rw a
agreed_named (c ∷ d ∷ ds) o n a = absurd (true≢false (sym a))

-- one of three numbers that are no more than 5
one_of : (o a b c : ℕ) → (eqb o a || eqb o b || eqb o c) ≡ true → a ≤ 5 → b ≤ 5 → c ≤ 5 → o ≤ 5
one_of o a b c e f g h =
    by_test (eqb o a) (λ t. omega (arith, eqb-true o a t))
    (λ x. by_test (eqb o b) (λ t. omega (arith, eqb-true o b t)) (λ y. omega (arith, eqb-true o c (rw (x, y) at e))))

-- an owner that agrees with the claims is no more than 5
agreed_most : (cs : List ℕ) (o : ℕ) → every nameable cs ≡ true → agrees cs o ≡ true → o ≤ 5
unfolding agrees every nameable
agreed_most [] o n a = one_of o 0 2 3 a (omega arith) (omega arith) (omega arith)
agreed_most (c ∷ []) o n a =
    let most = one_of c 5 1 4 ((and-eq-true_iff (nameable c) true).0 n).0 (omega arith) (omega arith) (omega arith) in
    omega (arith, eqb-true o c a, most)
agreed_most (c ∷ d ∷ ds) o n a = absurd (true≢false (sym a))

-- a page that is not valid, or neither plain nor calling, carries no permission
bare : (c v b : ℕ) → well_permitted c b ≡ true → (valid b && leb (owner b) 1) ≡ false → permitted v b ≡ false
unfolding well_permitted
bare c v b e f = none→ v b (eqb-true (bits 6 4 b) 0 (rw f at e))

module _ (m : Lent) (s : Sound m) where
  -- past the sheet's end nothing is there, which reads as zeros
  beyond : (i : ℕ) → records ≤ i → record_at m i ≡ zeros 0
  unfolding record_at zeros
  beyond i h = get_or-eq_default m.sheet [] (rw (sheet_length m s.tables) h)

  module _ (i : ℕ) where
    -- a record is one of the sheet and live, or it reads as zeros
    either : {C : Type 0} → (i < records → is_live (record_at m i) ≡ true → C) → ((n : ℕ) → record_at m i ≡ zeros n → C) → C
    either lives blank =
        by_test (ltb i records)
        (λ t. let h = ltb-true i records t in by_test (is_live (record_at m i)) (lives h) (λ d. blank record_size (dead_zeros m s i h d)))
        (λ t. blank 0 (beyond i (ltb-false i records t)))

    inside : Live m i → i < records
    inside l = omega (arith, live_inside m i l, sheet_length m s.tables)

    row : Live m i → RowRight (N m) (startup m).vmpl i m.sheet (vcpu m i)
    row l = row_right m s i (inside l) (live→ m i l)

    live_byte : (vcpu m i).live ≤ 1
    unfolding vcpu Live
    live_byte = either (λ h t. omega (arith, →live m i t)) (λ n e. rw (e, fields_zeros) (omega arith))

    running_byte : (vcpu m i).running ≤ 1
    unfolding vcpu
    running_byte = either (λ h t. (row_right m s i h t).running) (λ n e. rw (e, fields_zeros) (omega arith))

    -- who holds a pool page
    holders : Live m i → 4 ≤ i → (vcpu m i).holding ≡ 1
    unfolding needs_page records_without_pool
    holders l h = (row l).holding ∙ rw (le-leb 4 i h)

    first_four : i < 4 → (vcpu m i).holding ≡ 0
    unfolding vcpu needs_page records_without_pool
    first_four h = either (λ k t. (row_right m s i k t).holding ∙ rw (lt-leb 4 i h)) (λ n e. rw (e, fields_zeros))

    holding_byte : (vcpu m i).holding ≤ 1
    unfolding vcpu
    holding_byte = either (λ h t. rw (row_right m s i h t).holding (one_le (needs_page i))) (λ n e. rw (e, fields_zeros) (omega arith))

    names_below : Live m i → NamesBelow m i
    names_below l =
        record { least_vmpl = (row l).least; most_vmpl = (row l).most; vmsa = (row l).vmsa; calling = (row l).calling; pool = (row l).pool }

    layout : Layout m i
    unfolding vcpu
    layout =
        either
        (λ h t.
        let r = row_right m s i h t in
        record { pool = r.no_pool; spare = r.spare; features = λ l. r.features (λ e. omega arith) })
        (λ n e. record { pool = λ h. rw (e, fields_zeros); spare = rw (e, fields_zeros); features = λ h. rw (e, fields_zeros) })

    blank : i < records → (Live m i → ⊥) → record_at m i ≡ zeros record_size
    blank h d = dead_zeros m s i h (fails _ (λ t. d (→live m i t)))

    -- the owner of a page that it names
    owned : (p o : ℕ) → Live m i → Names m i p o → owner (table_byte m p) ≡ o
    unfolding holds vcpu
    owned p _ l (as_vmsa e) = rw (← e) (vmsa_owned m s i (inside l) (live→ m i l))
    owned p _ l (as_calling e) = rw (← e) (calling_owned m s i (inside l) (live→ m i l))
    owned p _ l (as_held h e) = rw (← e) (pool_owned m s i (inside l) (live→ m i l) (eq-eqb _ _ h))

    -- which is below N
    within : (p o : ℕ) → Live m i → Names m i p o → p < N m
    within p _ l (as_vmsa e) = omega (arith, (row l).vmsa)
    within p _ l (as_calling e) = omega (arith, (row l).calling)
    within p _ l (as_held h e) = omega (arith, (row l).pool h)

  once : (i j p o q : ℕ) → Live m i → Live m j → Names m i p o → Names m j p q → (i ≡ j) × (o ≡ q)
  unfolding record_at
  once i j p o q l k n w = (
    claimed_once m.sheet i p (owner (table_byte m p)) (live_inside m i l) (s.pages p (within i p o l n)).agreed j o q (live_inside m j k)
        (names→ m i p o l n)
        (names→ m j p q k w),
    sym (owned i p o l n) ∙ owned j p q k w,
  )

  apart : (i j : ℕ) → Live m i → Live m j → (vcpu m i).apic ≡ (vcpu m j).apic → i ≡ j
  unfolding record_at vcpu
  apart i j l k e =
      let a = (vcpu m i).apic in
      counted_once (has_apic a) m.sheet [] (omega (arith, (row i l).once)) i j (live_inside m i l) (live_inside m j k)
      (own_apic m i (live→ m i l)) (rw e (own_apic m j (live→ m j k)))

  module _ (p : ℕ) (h : p < N m) where
    abbrev byte : ℕ
    byte = table_byte m p

    named : (owner byte ≡ 5) ⊎ ((owner byte ≡ 1) ⊎ (owner byte ≡ 4)) → Named m p (owner byte)
    unfolding record_at
    named n =
        let o = owner byte in
        let one = claimant m.sheet p o (agreed_named (claims m.sheet p) o n (s.pages p h).agreed) in
        let naming = →names m one.0 p o one.2 in
        record { by = one.0; live = naming.0; naming = naming.1 }

    sealed : (c : ℕ) → ((2 ≤ owner byte) × (owner byte ≤ 5)) ⊎ (valid byte ≡ false) → permitted c byte ≡ false
    sealed c (inl high) = bare _ c byte (s.pages p h).allowed (rw (lt-leb (owner byte) 1 high.0) (and-false (valid byte)))
    sealed c (inr off) = bare _ c byte (s.pages p h).allowed (rw off)

    calling_low : (owner byte ≡ 0) ⊎ (owner byte ≡ 1) → leb (owner byte) 1 ≡ true
    calling_low (inl e) = rw e
    calling_low (inr e) = rw e

  -- the sentences
  pub said : SoundMachine m
  said =
      record {
        least = enough_pages m s.tables;
        most = few_pages m s.tables;
        memory = (memory_sizes m s.memories).0;
        pages = λ p h. page_whole m s.memories p (page_there m s.memories h);
        sheet = sheet_length m s.tables;
        rows = record_length m s.tables;
        named = named;
        owned = owned;
        once = once;
        owners = λ p h. omega (arith, agreed_most (claims m.sheet p) (owner (table_byte m p)) (claims_nameable m.sheet p) (s.pages p h).agreed);
        live_byte = live_byte;
        running_byte = running_byte;
        holding_byte = holding_byte;
        names_below = names_below;
        layout = layout;
        startup_live = →live m 0 (startup_lives m s);
        holders = holders;
        first_four = λ i h. first_four i (omega arith);
        blank = blank;
        apart = apart;
        above = λ i l. (row i l).rank;
        validity = λ p h. owned_valid _ _ (table_byte m p) (s.pages p h);
        sealed = λ p c h. sealed p h c;
        carried = λ p h low v. carried _ _ (table_byte m p) (s.pages p h) v (calling_low p h low);
      }
