-- Machines of right size and well-sized bytes are one another's: parted and joined, there and back.
use mathlib.Core.Path.{◌≡◌, refl, ◌∙◌, ap}
use mathlib.Core.Bool.{true, and-eq-true_iff}
use mathlib.Core.List.{List, [], ◌∷◌}
use Prim.Native.Nat.{ℕ, ◌*◌, ◌/◌, ◌<◌}
use native.Mathlib.Omega.{arith}
use native.Mathlib.Nat.{mul-suc}
use lib.Dec.{eqb, lit<}
use lib.ListN.{length, get_or, length-append}
use borrow.Author.Tests.{eqb-true, eq-eqb, le-leb}
use Rattle.rules.specs.Words.{page_size, least_pages, most_pages, records, record_size, between, every}
use Rattle.rules.specs.Machine.{Lent, N}
use Rattle.rules.specs.Sound.{table_sized, pages_sized, sound}
use Rattle.rules.specs.Flat.{Buffers, parts, join, parted, joined, memory_fits, memory_sized, sheet_sized, well_sized, sound_bytes}
use Rattle.laws.proofs.Ranges.{every→, →every}
use Rattle.laws.proofs.Chop.{chop_join}
use Rattle.laws.proofs.Parts.{parts_chop, length_parts, length_row}
use Rattle.laws.proofs.FlatSteps.{sizes, length_pages, sized_sheet}
use Rattle.safety.proofs.Sound.Facts.{open_sound}
use Rattle.safety.proofs.Sound.Sizes.{table_sizes, sheet_length, memory_sizes, Sized, sizes_of}

-- ---- parts of one size, joined

module _ (size : ℕ) (pos : 0 < size) where
  length_join : (rows : List (List ℕ)) → every (λ r. eqb (length r) size) rows ≡ true → length (join rows) ≡ size * length rows
  unfolding join every
  length_join [] e = omega arith
  length_join (r ∷ rows) e =
      let both = (and-eq-true_iff (eqb (length r) size) (every (λ r. eqb (length r) size) rows)).0 e in
      length-append r (join rows) ∙ omega (arith, eqb-true (length r) size both.0, length_join rows both.1, mul-suc size (length rows))

  parts_join : (rows : List (List ℕ)) → every (λ r. eqb (length r) size) rows ≡ true → parts size (join rows) ≡ rows
  parts_join rows e =
      parts_chop (length rows) size (join rows) pos (length_join rows e)
      ∙ chop_join size rows (λ p h. eqb-true (length (get_or rows p [])) size (every→ (λ r. eqb (length r) size) rows p [] e h))

-- ---- a machine of right size and its bytes

module _ {n : ℕ} (m : Lent) (s : Sized n m) where
  -- joined and parted it is the same
  pub parted_joined : parted (joined m) ≡ m
  unfolding parted joined page_size record_size
  parted_joined =
      λ i. record {
        memory = parts_join page_size (lit< tt) m.memory (memory_sizes m s.memories).1 i;
        table = m.table;
        sheet = parts_join record_size (lit< tt) m.sheet (table_sizes m s.tables).2 i;
      }

  joined_sized : well_sized (joined m) ≡ true
  unfolding well_sized memory_sized memory_fits sheet_sized joined page_size record_size N
  joined_sized =
      let rows = table_sizes m s.tables in
      let pages = memory_sizes m s.memories in
      rw (
        rows.0,
        eq-eqb _ _ (length_join page_size (lit< tt) m.memory pages.1 ∙ ap (λ n. page_size * n) pages.0),
        eq-eqb _ _ (length_join record_size (lit< tt) m.sheet rows.2 ∙ ap (λ n. record_size * n) (sheet_length m s.tables)),
      )

-- a sound machine, joined
pub sound_joined : (m : Lent) → sound m ≡ true → sound_bytes (joined m) ≡ true
unfolding sound_bytes
sound_joined m e = let s = sizes_of (open_sound m e) in rw (joined_sized m s, parted_joined m s, e)

-- ---- well-sized bytes and the machine that they are

-- both tests
pub both_sized : (b : Buffers) → well_sized b ≡ true → (memory_sized b.table b.memory ≡ true) × (sheet_sized b.sheet ≡ true)
unfolding well_sized
both_sized b w = (and-eq-true_iff (memory_sized b.table b.memory) (sheet_sized b.sheet)).0 w

-- each part has the size
each_part : (size : ℕ) → 0 < size → (l : List ℕ) → every (λ r. eqb (length r) size) (parts size l) ≡ true
each_part size pos l = →every (λ r. eqb (length r) size) (parts size l) [] (λ p h. eq-eqb _ _ (length_row size l p pos h))

rows_count : (n : ℕ) → n ≡ record_size * records → n / record_size ≡ records
unfolding record_size records
rows_count n e = omega arith

-- it is of right size
pub parted_sized : (b : Buffers) → well_sized b ≡ true → Sized (N (parted b)) (parted b)
unfolding table_sized pages_sized parted N record_size page_size memory_sized between
parted_sized b w =
    let both = both_sized b w in
    let fits = sizes (length b.table) (length b.memory) both.0 in
    let range : between least_pages most_pages (length b.table) ≡ true = rw (le-leb _ _ fits.least, le-leb _ _ fits.most) in
    let whole = sized_sheet b.sheet both.1 in
    let rows : length (parts record_size b.sheet) ≡ records = length_parts record_size b.sheet ∙ rows_count (length b.sheet) whole in
    record {
      tables = rw (range, eq-eqb _ _ rows, each_part record_size (lit< tt) b.sheet);
      memories = rw (eq-eqb _ _ (length_pages b.table b.memory both.0), each_part page_size (lit< tt) b.memory);
      number = refl;
    }
