-- A change of memory, or of one page's table byte, that leaves a sound machine sound; and which table bytes are right.
use mathlib.Core.Path.{◌≡◌, ◌∙◌}
use mathlib.Core.Bool.{true, false, and-false, or-true}
use mathlib.Core.List.{List, []}
use Prim.Native.Nat.{ℕ, ◌<◌, ◌≤◌}
use native.Mathlib.Omega.{arith}
use lib.Dec.{leb, ltb, eqb}
use lib.ListN.{set}
use borrow.Author.Tests.{eqb-true, eqb-false, ne_eqb, leb-true, leb-false, le-leb, lt-ltb}
use Rattle.rules.specs.Words.{page_size, between, bits}
use Rattle.rules.specs.Machine.{Lent, N, with_memory, written, write, zeros, fill, owner, valid, permitted, grant, revoke, own, table_byte, change}
use Rattle.rules.specs.Machine.{record_at, vcpu, startup}
use Rattle.rules.specs.Sound.{claims, agrees, well_permitted, live_fault, record_fault, table_sized, pages_sized}
use Rattle.laws.proofs.Ranges.{by_test}
use Rattle.laws.proofs.TableByte.{byte·simp, owner_own, valid_own, permitted_own, permissions_own}
use Rattle.laws.proofs.Change.{Puts, change_puts, puts_same, puts_other, puts_N}
use Rattle.safety.proofs.Effects.{same_startup}
use Rattle.safety.proofs.Sound.Facts.{PageRight, Sound}
use Rattle.safety.proofs.Sound.Sizes.{written_sized, filled_sized, sizes_of, puts_sized}
use Rattle.safety.proofs.Sound.Claims.{nameable, unclaimed}

-- ---- memory

-- a machine with other memory of right size is as sound
pub changed_memory : (m : Lent) (pages : List (List ℕ)) → Sound m → pages_sized (with_memory pages m) ≡ true → Sound (with_memory pages m)
unfolding with_memory N table_byte startup vcpu record_at record_fault live_fault table_sized
changed_memory m pages s e = record { tables = s.tables; memories = e; pages = s.pages; rows = s.rows }

-- a write leaves a sound machine sound
pub write_sound : (p offset : ℕ) (bytes : List ℕ) (m : Lent) → Sound m → Sound (write p offset bytes m)
unfolding write
write_sound p offset bytes m s = changed_memory m (written p offset bytes m.memory) s (written_sized m s.memories p offset bytes)

-- so does filling a page with zeros
pub fill_sound : (p : ℕ) (m : Lent) → Sound m → Sound (fill p m)
unfolding fill
fill_sound p m s = changed_memory m (set m.memory p (zeros page_size)) s (filled_sized m s.memories p)

-- ---- one table byte

module _ {p b : ℕ} {m after : Lent} (put : Puts p b m after) where
  rows_kept : (i : ℕ) → record_fault m i ≡ false → record_fault after i ≡ false
  unfolding record_fault live_fault startup vcpu record_at
  rows_kept i e = rw (puts_N put, put.sheet) e

  sheet_kept : (q c : ℕ) → PageRight (startup m).vmpl (claims m.sheet q) c → PageRight (startup after).vmpl (claims after.sheet q) c
  sheet_kept q c h = rw (same_startup m after put.sheet, put.sheet) h

  -- a page may take a byte that is right for what is claimed of it; past the table's end nothing is put
  pub puts_sound : Sound m → (p < N m → PageRight (startup m).vmpl (claims m.sheet p) b) → Sound after
  puts_sound s h =
      let still = puts_sized put (sizes_of s) in
      record {
        tables = still.tables;
        memories = still.memories;
        pages = λ q l.
            let inside : q < N m = rw (puts_N put) at l in
            by_test (eqb q p)
            (λ t. let e = eqb-true q p t in rw (e, puts_same put (rw e at inside)) (sheet_kept p b (h (rw e at inside))))
            (λ t. rw (puts_other put q (eqb-false q p t)) (sheet_kept q (table_byte m q) (s.pages q inside)));
        rows = λ i l. rows_kept i (s.rows i l);
      }

-- the same for a change of the byte
pub change_sound : (f : ℕ → ℕ) (p : ℕ) (m : Lent) → Sound m
    → (p < N m → PageRight (startup m).vmpl (claims m.sheet p) (f (table_byte m p))) → Sound (change f p m)
change_sound f p m s h = puts_sound (change_puts f p m) s h

-- a page of an owner that is not claimed is claimed by no record
pub unclaimed_page : (m : Lent) (p o : ℕ) → Sound m → p < N m → owner (table_byte m p) ≡ o → nameable o ≡ false → claims m.sheet p ≡ []
unclaimed_page m p o s h e n = unclaimed m.sheet p (owner (table_byte m p)) (rw e n) (s.pages p h).agreed

-- ---- right bytes

module _ (c : ℕ) (cs : List ℕ) (b : ℕ) where
  module _ (agreed : agrees cs (owner b) ≡ true) where
    -- a valid plain or calling page that the startup's VMPL is permitted
    pub right_open : leb (owner b) 1 ≡ true → valid b ≡ true → permitted c b ≡ true → PageRight c cs b
    unfolding well_permitted
    right_open o v p = record { agreed = agreed; validated = rw (v, or-true); allowed = rw (v, o, p) }

    -- a valid page of another owner, permitted to nobody
    pub right_sealed : leb (owner b) 1 ≡ false → valid b ≡ true → bits 6 4 b ≡ 0 → PageRight c cs b
    unfolding well_permitted
    right_sealed o v p = record { agreed = agreed; validated = rw (v, or-true); allowed = rw (v, o, p) }

    -- a plain page that is not valid, permitted to nobody
    pub right_invalid : owner b ≡ 0 → valid b ≡ false → bits 6 4 b ≡ 0 → PageRight c cs b
    unfolding well_permitted
    right_invalid o v p = record { agreed = agreed; validated = rw o; allowed = rw (v, p) }

-- a grant to a VMPL that is not below the startup's permits the startup's
pub granted : (c v b : ℕ) → between 1 3 c ≡ true → c ≤ v → permitted c (grant v b) ≡ true
granted c v b e h = simp (byte·simp, e, le-leb c v h)

-- a page given back: plain, and granted to a VMPL that is not below the startup's
pub right_given : (c v b : ℕ) (cs : List ℕ) → between 1 3 c ≡ true → c ≤ v → valid b ≡ true → agrees cs 0 ≡ true → PageRight c cs (grant v (own 0 b))
right_given c v b cs e h t agreed =
    right_open c cs (grant v (own 0 b)) (simp byte·simp agreed) (simp byte·simp) (simp (byte·simp, t)) (granted c v (own 0 b) e h)

-- a page taken for an owner above calling area: no permission left
pub right_taken : (c o b : ℕ) (cs : List ℕ) → ltb o 8 ≡ true → leb o 1 ≡ false → valid b ≡ true → agrees cs o ≡ true → PageRight c cs (own o (revoke b))
right_taken c o b cs small l t agreed =
    let is = owner_own o (revoke b) small in
    right_sealed c cs (own o (revoke b)) (rw is agreed) (rw is l) (simp (valid_own o (revoke b) small, byte·simp, t))
    (simp (permissions_own o (revoke b) small, byte·simp))

-- ---- a page that stays right, with other claims, when its owner changes

module _ (c : ℕ) (cs : List ℕ) (b : ℕ) (right : PageRight c cs b) where
  -- a page that is not plain is valid
  pub owned_valid : (owner b ≡ 0 → ⊥) → valid b ≡ true
  owned_valid h = rw (ne_eqb _ _ h) at right.validated

  -- a valid plain or calling page carries VMPL c
  pub carried : valid b ≡ true → leb (owner b) 1 ≡ true → permitted c b ≡ true
  unfolding well_permitted
  carried v l = rw (v, l) at right.allowed

  -- any other carries none
  bare : leb (owner b) 1 ≡ false → bits 6 4 b ≡ 0
  unfolding well_permitted
  bare l = eqb-true _ _ (rw (l, and-false) at right.allowed)

  module _ (ds : List ℕ) where
    -- plain and calling, into one another
    pub own_low : (o : ℕ) → leb o 1 ≡ true → valid b ≡ true → leb (owner b) 1 ≡ true → agrees ds o ≡ true → PageRight c ds (own o b)
    own_low o l v was agreed =
        let small : ltb o 8 ≡ true = lt-ltb o 8 (omega (arith, leb-true o 1 l)) in
        let is = owner_own o b small in
        right_open c ds (own o b) (rw is agreed) (rw is l) (valid_own o b small ∙ v) (permitted_own c o b small ∙ carried v was)

    -- the owners above, into one another
    pub own_high : (o : ℕ) → ltb o 8 ≡ true → leb o 1 ≡ false → leb (owner b) 1 ≡ false → agrees ds o ≡ true → PageRight c ds (own o b)
    own_high o small l was agreed =
        let is = owner_own o b small in
        right_sealed c ds (own o b) (rw is agreed) (rw is l) (valid_own o b small ∙ owned_valid (λ e. omega (arith, leb-false (owner b) 1 was)))
        (permissions_own o b small ∙ bare was)
