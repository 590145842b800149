-- A sound machine as facts that can be handed about: right sizes, each page right and each record without a fault; and back again.
use mathlib.Core.Path.{◌≡◌, refl}
use mathlib.Core.Bool.{Bool, true, false, cond, not, ◌&&◌, ◌||◌, and-eq-true_iff}
use mathlib.Core.List.{List}
use Prim.Native.Nat.{ℕ, ◌<◌, zero-le}
use native.Mathlib.Omega.{arith}
use lib.Dec.{eqb}
use borrow.Author.Tests.{eqb-true, eq-eqb, not-true}
use Rattle.rules.specs.Words.{records, range, every}
use Rattle.rules.specs.Machine.{Lent, N, owner, plain, valid, table_byte, startup}
use Rattle.rules.specs.Sound.{claims, agrees, well_permitted, page_fault, record_fault, table_sized, pages_sized, sound}
use Rattle.laws.proofs.Ranges.{every_range→, →every-range}

-- a page whose owner agrees with what is claimed for it, that is valid unless plain, and that is permitted as it should be
pub record PageRight (c : ℕ) (cs : List ℕ) (b : ℕ) : Type 0 where
  pub agreed : agrees cs (owner b) ≡ true
  pub validated : (eqb (owner b) plain || valid b) ≡ true
  pub allowed : well_permitted c b ≡ true

-- a sound machine
pub record Sound (m : Lent) : Type 0 where
  pub tables : table_sized m ≡ true
  pub memories : pages_sized m ≡ true
  pub pages : (p : ℕ) → p < N m → PageRight (startup m).vmpl (claims m.sheet p) (table_byte m p)
  pub rows : (i : ℕ) → i < records → record_fault m i ≡ false

-- three tests in a row that all fail, and the reverse
passed : (a o v w : Bool) → ◌≡◌ {A = ℕ} (cond (not a) 1 (cond (not o && not v) 2 (cond (not w) 3 0))) 0 → (a ≡ true) × ((o || v) ≡ true) × (w ≡ true)
passed true true v true e = (refl, refl, refl)
passed true false true true e = (refl, refl, refl)
passed true true v false e = absurd (omega arith)
passed true false true false e = absurd (omega arith)
passed true false false w e = absurd (omega arith)
passed false o v w e = absurd (omega arith)

pass : (a o v w : Bool) → a ≡ true → (o || v) ≡ true → w ≡ true → ◌≡◌ {A = ℕ} (cond (not a) 1 (cond (not o && not v) 2 (cond (not w) 3 0))) 0
pass a true v w e f g = rw (e, g)
pass a false v w e f g = rw (e, f, g)

module _ (m : Lent) where
  faultless : (p : ℕ) → page_fault m p ≡ 0 → PageRight (startup m).vmpl (claims m.sheet p) (table_byte m p)
  unfolding page_fault
  faultless p e =
      let b = table_byte m p in
      let h = passed (agrees (claims m.sheet p) (owner b)) (eqb (owner b) plain) (valid b) (well_permitted (startup m).vmpl b) e in
      record { agreed = h.0; validated = h.1; allowed = h.2 }

  right : (p : ℕ) → PageRight (startup m).vmpl (claims m.sheet p) (table_byte m p) → page_fault m p ≡ 0
  unfolding page_fault
  right p h =
      let b = table_byte m p in
      pass (agrees (claims m.sheet p) (owner b)) (eqb (owner b) plain) (valid b) (well_permitted (startup m).vmpl b)
      h.agreed h.validated h.allowed

  -- what `sound` says
  pub open_sound : sound m ≡ true → Sound m
  unfolding sound
  open_sound e =
      let fine : ℕ → Bool = λ p. eqb (page_fault m p) 0 in
      let sizes = table_sized m && pages_sized m in
      let outer = (and-eq-true_iff (sizes && every fine (range 0 (N m))) (every (λ i. not (record_fault m i)) (range 0 records))).0 e in
      let inner = (and-eq-true_iff sizes (every fine (range 0 (N m)))).0 outer.0 in
      let both = (and-eq-true_iff (table_sized m) (pages_sized m)).0 inner.0 in
      record {
        tables = both.0;
        memories = both.1;
        pages = λ p h. faultless p (eqb-true _ _ (every_range→ fine 0 (N m) inner.1 p zero-le (omega arith)));
        rows = λ i h. not-true _ (every_range→ (λ i. not (record_fault m i)) 0 records outer.1 i zero-le (omega arith));
      }

  -- and what suffices for it
  pub close_sound : Sound m → sound m ≡ true
  unfolding sound
  close_sound s =
      rw (
        s.tables,
        s.memories,
        →every-range (λ p. eqb (page_fault m p) 0) 0 (N m) (λ p l h. eq-eqb _ _ (right p (s.pages p (omega arith)))),
        →every-range (λ i. not (record_fault m i)) 0 records (λ i l h. rw (s.rows i (omega arith))),
      )
