-- What a sound machine says of its records: what a live one holds, the owners of the pages that it names, and that it alone claims them;
-- that a record which is not live is zeros; and back again, what makes a record faultless.
use mathlib.Core.Path.{◌≡◌, refl, sym, ◌∙◌, ap}
use mathlib.Core.Bool.{Bool, true, false, cond, not, ◌&&◌, ◌||◌}
use mathlib.Core.List.{List, []}
use Prim.Native.Nat.{ℕ, ◌<◌, ◌≤◌}
use native.Mathlib.Omega.{arith}
use lib.Dec.{leb, ltb, eqb}
use lib.ListN.{length, get_or, set}
use lib.Seq.{ext_get_or, get_or-set_other, lt-length-set}
use borrow.Author.Tests.{eqb-true, eqb-false, ltb-true, ltb-false, eq-eqb, ne_eqb, le-leb, lt-leb, le-ltb, not-false, not-true}
use Rattle.rules.specs.Words.{between, records, record_size, every, exists, count}
use Rattle.rules.specs.declared.Vcpu.{Vcpu}
use Rattle.rules.specs.Machine.{Lent, N, owner, table_byte, fields, is_live, holds, needs_page, record_at, vcpu, startup, zeros}
use Rattle.rules.specs.Sound.{claim, claims, bad_names, bad_record, live_fault, record_fault}
use Rattle.laws.proofs.Ranges.{by_test, every→, →every, →exists, absent→, or_false}
use Rattle.laws.proofs.Counts.{one, one_le, count_set, exists_count, count_none}
use Rattle.laws.proofs.Numbers.{length_zeros, zeros_at}
use Rattle.laws.proofs.Records.{fields_zeros, is_live_zeros}
use Rattle.laws.specs.Tested.{Names}
use Rattle.laws.proofs.Tested.{names}
use Rattle.safety.proofs.Small.{and_false→, implied}
use Rattle.safety.proofs.Sound.Facts.{Sound}
use Rattle.safety.proofs.Sound.Sizes.{in_sheet, record_length}
use Rattle.safety.proofs.Sound.Claims.{claim_vmsa, claim_calling, claim_pool, claimed_owner, claimed_alone}

-- ---- a live record

-- it is live and has this APIC ID
abbrev pub has_apic : ℕ → List ℕ → Bool
has_apic a r = is_live r && eqb (fields r).apic a

-- a live record has its own
pub own_apic : (m : Lent) (i : ℕ) → is_live (record_at m i) ≡ true → has_apic (vcpu m i).apic (record_at m i) ≡ true
unfolding vcpu
own_apic m i e = rw (e, eq-eqb (fields (record_at m i)).apic (fields (record_at m i)).apic refl)

-- what record i holds if it is live, in a machine of n pages with the startup's VMPL c
pub record RowRight (n c i : ℕ) (sheet : List (List ℕ)) (v : Vcpu) : Type 0 where
  pub running : v.running ≤ 1
  pub least : 1 ≤ v.vmpl
  pub most : v.vmpl ≤ 3
  pub vmsa : v.vmsa < n
  pub calling : v.calling < n
  pub pool : v.holding ≡ 1 → v.pool < n
  pub holding : v.holding ≡ cond (needs_page i) 1 0
  pub no_pool : v.holding ≡ 0 → v.pool ≡ 0
  pub spare : v.spare ≡ 0
  pub features : (i ≡ 0 → ⊥) → v.features ≡ 0
  pub once : count (has_apic v.apic) sheet ≡ 1
  pub rank : c ≤ v.vmpl

all_zeros : (n : ℕ) → every (eqb 0) (zeros n) ≡ true
all_zeros n = →every (eqb 0) (zeros n) 0 (λ i h. rw (zeros_at n i))

-- the fields with another running byte and calling page
abbrev pub renewed : ℕ → ℕ → Vcpu → Vcpu
renewed running calling v =
    record {
      live = v.live;
      vmpl = v.vmpl;
      running = running;
      holding = v.holding;
      apic = v.apic;
      vmsa = v.vmsa;
      calling = calling;
      pool = v.pool;
      spare = v.spare;
      features = v.features;
    }

-- they are right still, in a sheet that counts their APIC ID once
pub row_renewed : {n c i running calling : ℕ} {sheet sheet' : List (List ℕ)} {v : Vcpu} → RowRight n c i sheet v → running ≤ 1 → calling < n
    → count (has_apic v.apic) sheet' ≡ 1 → RowRight n c i sheet' (renewed running calling v)
row_renewed row l b once =
    record {
      running = l;
      least = row.least;
      most = row.most;
      vmsa = row.vmsa;
      calling = b;
      pool = row.pool;
      holding = row.holding;
      no_pool = row.no_pool;
      spare = row.spare;
      features = row.features;
      once = once;
      rank = row.rank;
    }

live_is_one : (r : List ℕ) → is_live r ≡ true → (fields r).live ≡ 1
unfolding is_live
live_is_one r e = eqb-true _ _ e

module _ (m : Lent) (i : ℕ) where
  both : record_fault m i ≡ false → (bad_record (N m) (record_at m i) ≡ false)
      × (cond (is_live (record_at m i)) (live_fault m i) (eqb i 0 || not (every (eqb 0) (record_at m i))) ≡ false)
  unfolding record_fault
  both e = or_false (bad_record (N m) (record_at m i)) _ e

  -- a record without fault has nothing that outcome 3 names
  pub not_bad : record_fault m i ≡ false → bad_record (N m) (record_at m i) ≡ false
  not_bad e = (both e).0

  -- what a record without fault holds if it is live
  pub open_row : record_fault m i ≡ false → is_live (record_at m i) ≡ true → RowRight (N m) (startup m).vmpl i m.sheet (vcpu m i)
  unfolding vcpu bad_record live_fault holds
  open_row e live =
      let r = record_at m i in
      let v = fields r in
      let seen : Names (N m) r = names (N m) r (not_bad e) live in
      let first = (or_false (ltb 1 v.live || ltb 1 v.running || ltb 1 v.holding) (is_live r && bad_names (N m) r) (not_bad e)).0 in
      let second = or_false (ltb 1 v.live) (ltb 1 v.running) (or_false (ltb 1 v.live || ltb 1 v.running) (ltb 1 v.holding) first).0 in
      let a = not (eqb v.holding (cond (needs_page i) 1 0)) in
      let b = eqb v.holding 0 && not (eqb v.pool 0) in
      let c = not (eqb v.spare 0) in
      let d = not (eqb i 0) && not (eqb v.features 0) in
      let f = not (eqb (count (has_apic v.apic) m.sheet) 1) in
      let g = ltb v.vmpl (startup m).vmpl in
      let six : (a || b || c || d || f || g) ≡ false = rw live at (both e).1 in
      let five = or_false (a || b || c || d || f) g six in
      let four = or_false (a || b || c || d) f five.0 in
      let three = or_false (a || b || c) d four.0 in
      let two = or_false (a || b) c three.0 in
      let one = or_false a b two.0 in
      record {
        running = ltb-false _ _ second.1;
        least = seen.least;
        most = seen.most;
        vmsa = seen.vmsa;
        calling = seen.calling;
        pool = λ h. seen.pool (eq-eqb _ _ h);
        holding = eqb-true _ _ (not-false _ one.0);
        no_pool = λ h. eqb-true _ _ (not-false _ (and_false→ _ _ one.1 (eq-eqb _ _ h)));
        spare = eqb-true _ _ (not-false _ two.1);
        features = λ h. eqb-true _ _ (not-false _ (and_false→ (not (eqb i 0)) _ three.1 (rw (ne_eqb i 0 h))));
        once = eqb-true _ _ (not-false _ four.1);
        rank = ltb-false _ _ five.1;
      }

  module _ (row : RowRight (N m) (startup m).vmpl i m.sheet (vcpu m i)) where
    well_named : bad_names (N m) (record_at m i) ≡ false
    unfolding bad_names between holds vcpu
    well_named =
        let v = fields (record_at m i) in
        let held : (eqb v.holding 1 && leb (N m) v.pool) ≡ false
        = implied (eqb v.holding 1) (leb (N m) v.pool) (λ t. lt-leb _ _ (row.pool (eqb-true _ _ t))) in
        rw (le-leb _ _ row.least, le-leb _ _ row.most, lt-leb _ _ row.vmsa, lt-leb _ _ row.calling, held)

    held_once : (fields (record_at m i)).holding ≤ 1
    unfolding vcpu
    held_once = rw row.holding (one_le (needs_page i))

    well_shaped : is_live (record_at m i) ≡ true → bad_record (N m) (record_at m i) ≡ false
    unfolding bad_record vcpu
    well_shaped live =
        let v = fields (record_at m i) in
        rw (
          le-ltb 1 v.live (omega (arith, live_is_one (record_at m i) live)),
          le-ltb 1 v.running row.running,
          le-ltb 1 v.holding held_once,
          live,
          well_named,
        )

    faultless : live_fault m i ≡ false
    unfolding live_fault
    faultless =
        let v = vcpu m i in
        let b : (eqb v.holding 0 && not (eqb v.pool 0)) ≡ false
        = implied (eqb v.holding 0) _ (λ t. rw (eq-eqb _ _ (row.no_pool (eqb-true _ _ t)))) in
        let d : (not (eqb i 0) && not (eqb v.features 0)) ≡ false
        = implied (not (eqb i 0)) _ (λ t. rw (eq-eqb _ _ (row.features (eqb-false i 0 (not-true _ t))))) in
        rw (eq-eqb _ _ row.holding, b, eq-eqb _ _ row.spare, d, eq-eqb _ _ row.once, le-ltb _ _ row.rank)

    -- a live record that holds it is without fault
    pub close_row : is_live (record_at m i) ≡ true → record_fault m i ≡ false
    unfolding record_fault
    close_row live = rw (live, well_shaped live, faultless)

  -- a record without fault that is not live is not the startup's, and all its bytes are 0
  pub open_dead : record_fault m i ≡ false → is_live (record_at m i) ≡ false → (i ≡ 0 → ⊥) × (every (eqb 0) (record_at m i) ≡ true)
  open_dead e dead =
      let rest = or_false (eqb i 0) (not (every (eqb 0) (record_at m i))) (rw dead at (both e).1) in
      (eqb-false i 0 rest.0, not-false _ rest.1)

  -- zeros are without fault, but in the startup's place
  pub close_dead : record_at m i ≡ zeros record_size → (i ≡ 0 → ⊥) → record_fault m i ≡ false
  unfolding record_fault bad_record
  close_dead e h = rw (e, is_live_zeros, ne_eqb i 0 h, fields_zeros, all_zeros)

-- ---- in a sound machine

module _ (m : Lent) (s : Sound m) where
  -- record 0 is live
  pub startup_lives : is_live (record_at m 0) ≡ true
  unfolding records
  startup_lives = by_test (is_live (record_at m 0)) (λ t. t) (λ t. absurd ((open_dead m 0 (s.rows 0 (omega arith)) t).0 refl))

  -- a record that is not live is zeros
  pub dead_zeros : (i : ℕ) → i < records → is_live (record_at m i) ≡ false → record_at m i ≡ zeros record_size
  dead_zeros i h dead =
      let r = record_at m i in
      let size = record_length m s.tables i h in
      ext_get_or 0 r (zeros record_size) (size ∙ sym (length_zeros record_size))
      (λ k b. sym (eqb-true _ _ (every→ (eqb 0) r k 0 (open_dead m i (s.rows i h) dead).1 b)) ∙ sym (zeros_at record_size k))

  module _ (i : ℕ) (h : i < records) (live : is_live (record_at m i) ≡ true) where
    inside : i < length m.sheet
    inside = in_sheet m s.tables h

    -- what it holds
    pub row_right : RowRight (N m) (startup m).vmpl i m.sheet (vcpu m i)
    row_right = open_row m i (s.rows i h) live

    -- its VMSA page is below N
    pub vmsa_below : (vcpu m i).vmsa < N m
    vmsa_below = row_right.vmsa

    -- so is its calling page
    pub calling_below : (vcpu m i).calling < N m
    calling_below = row_right.calling

    -- and its pool page
    pub pool_below : holds (record_at m i) ≡ true → (vcpu m i).pool < N m
    unfolding holds vcpu
    pool_below e = row_right.pool (eqb-true _ _ e)

    -- it holds a pool page exactly if it needs one
    pub holds_needed : holds (record_at m i) ≡ needs_page i
    unfolding holds vcpu
    holds_needed = rw row_right.holding (by_test (needs_page i) (λ t. rw t) (λ t. rw t))

    -- a page that it claims
    module _ (p : ℕ) (b : p < N m) (c : ℕ) (e : exists (eqb c) (claim (record_at m i) p) ≡ true) where
      -- has the owner claimed
      owned : owner (table_byte m p) ≡ c
      unfolding record_at
      owned = claimed_owner m.sheet i p (owner (table_byte m p)) inside (s.pages p b).agreed c e

      -- and is claimed by it alone
      owned_alone : claims m.sheet p ≡ claim (record_at m i) p
      unfolding record_at
      owned_alone = claimed_alone m.sheet i p (owner (table_byte m p)) inside (s.pages p b).agreed c e

    claims_vmsa : exists (eqb 5) (claim (record_at m i) (vcpu m i).vmsa) ≡ true
    unfolding vcpu
    claims_vmsa = claim_vmsa (record_at m i) live

    claims_calling : exists (eqb 1) (claim (record_at m i) (vcpu m i).calling) ≡ true
    unfolding vcpu
    claims_calling = claim_calling (record_at m i) live

    claims_pool : holds (record_at m i) ≡ true → exists (eqb 4) (claim (record_at m i) (vcpu m i).pool) ≡ true
    unfolding vcpu
    claims_pool e = claim_pool (record_at m i) live e

    -- its VMSA page's owner
    pub vmsa_owned : owner (table_byte m (vcpu m i).vmsa) ≡ 5
    vmsa_owned = owned (vcpu m i).vmsa vmsa_below 5 claims_vmsa

    -- its calling page's
    pub calling_owned : owner (table_byte m (vcpu m i).calling) ≡ 1
    calling_owned = owned (vcpu m i).calling calling_below 1 claims_calling

    -- its pool page's
    pub pool_owned : holds (record_at m i) ≡ true → owner (table_byte m (vcpu m i).pool) ≡ 4
    pool_owned e = owned (vcpu m i).pool (pool_below e) 4 (claims_pool e)

    -- it alone claims its VMSA page
    pub vmsa_alone : claims m.sheet (vcpu m i).vmsa ≡ claim (record_at m i) (vcpu m i).vmsa
    vmsa_alone = owned_alone (vcpu m i).vmsa vmsa_below 5 claims_vmsa

    -- its calling page
    pub calling_alone : claims m.sheet (vcpu m i).calling ≡ claim (record_at m i) (vcpu m i).calling
    calling_alone = owned_alone (vcpu m i).calling calling_below 1 claims_calling

    -- and its pool page
    pub pool_alone : holds (record_at m i) ≡ true → claims m.sheet (vcpu m i).pool ≡ claim (record_at m i) (vcpu m i).pool
    pool_alone e = owned_alone (vcpu m i).pool (pool_below e) 4 (claims_pool e)

    -- a page of another owner is not its VMSA page
    pub not_vmsa : (p : ℕ) → (owner (table_byte m p) ≡ 5 → ⊥) → eqb (vcpu m i).vmsa p ≡ false
    not_vmsa p f = ne_eqb _ _ (λ e. f (ap (λ q. owner (table_byte m q)) (sym e) ∙ vmsa_owned))

    -- nor its pool page
    pub not_pool : (p : ℕ) → (owner (table_byte m p) ≡ 4 → ⊥) → (holds (record_at m i) && eqb (vcpu m i).pool p) ≡ false
    not_pool p f =
        implied (holds (record_at m i)) (eqb (vcpu m i).pool p) (λ t. ne_eqb _ _ (λ e. f (ap (λ q. owner (table_byte m q)) (sym e) ∙ pool_owned t)))

    -- its VMSA page is not the calling page
    pub vmsa_not_calling : (vcpu m i).vmsa ≡ (vcpu m i).calling → ⊥
    vmsa_not_calling e = omega (arith, ap (λ q. owner (table_byte m q)) e, vmsa_owned, calling_owned)

    -- nor the pool page
    pub vmsa_not_pool : holds (record_at m i) ≡ true → (vcpu m i).vmsa ≡ (vcpu m i).pool → ⊥
    vmsa_not_pool t e = omega (arith, ap (λ q. owner (table_byte m q)) e, vmsa_owned, pool_owned t)

    -- nor is the calling page
    pub calling_not_pool : holds (record_at m i) ≡ true → (vcpu m i).calling ≡ (vcpu m i).pool → ⊥
    calling_not_pool t e = omega (arith, ap (λ q. owner (table_byte m q)) e, calling_owned, pool_owned t)

  -- the startup's VMPL is 1 to 3
  pub startup_range : between 1 3 (startup m).vmpl ≡ true
  unfolding between records startup
  startup_range =
      let row = row_right 0 (omega arith) startup_lives in
      rw (le-leb _ _ row.least, le-leb _ _ row.most)

-- ---- counts, after one record changed

module _ (test : List ℕ → Bool) (sheet : List (List ℕ)) (i : ℕ) (r : List ℕ) (h : i < length sheet) where
  -- a record that passes as the old one did leaves the count
  pub count_kept : test r ≡ test (get_or sheet i []) → count test (set sheet i r) ≡ count test sheet
  count_kept e = omega (arith, count_set test sheet i r [] h, ap one e)

  -- one that fails, where another passes and is counted once, leaves the count
  pub count_still : (j : ℕ) → (j ≡ i → ⊥) → j < length sheet → test (get_or sheet j []) ≡ true → test r ≡ false → count test sheet ≡ 1
      → count test (set sheet i r) ≡ 1
  count_still j ne k e f one_before =
      let there : exists test (set sheet i r) ≡ true
      = →exists test (set sheet i r) j [] (lt-length-set sheet i r k) (rw (get_or-set_other sheet i j r [] ne) e) in
      omega (arith, count_set test sheet i r [] h, ap one f, ltb-true 0 (count test (set sheet i r)) (sym (exists_count test (set sheet i r)) ∙ there))

  -- one that passes, where none did, is the only one
  pub count_new : exists test sheet ≡ false → test r ≡ true → count test (set sheet i r) ≡ 1
  count_new e f = omega (arith, count_set test sheet i r [] h, ap one f, ap one (absent→ test sheet i [] e h), count_none test sheet e)
