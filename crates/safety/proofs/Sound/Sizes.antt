-- What the right sizes of a machine say of its table, its sheet and its memory; and what keeps them right.
use mathlib.Core.Path.{◌≡◌, refl, ◌∙◌}
use mathlib.Core.Bool.{true, ◌&&◌, and-eq-true_iff}
use mathlib.Core.List.{List, [], ◌∷◌}
use Prim.Native.Nat.{ℕ, ◌<◌, ◌≤◌}
use lib.Dec.{leb, eqb}
use lib.ListN.{length, get_or, set, length-set}
use lib.Seq.{sets, length-sets}
use borrow.Author.Tests.{eqb-true, leb-true, eq-eqb}
use Rattle.rules.specs.Words.{page_size, least_pages, most_pages, records, record_size, between, every, each}
use Rattle.rules.specs.Machine.{Lent, N, page_at, with_memory, written, write, zeros, fill, change, record_at, amend}
use Rattle.rules.specs.Sound.{table_sized, pages_sized}
use Rattle.laws.proofs.Numbers.{length_zeros}
use Rattle.laws.proofs.Ranges.{every→}
use Rattle.safety.proofs.Small.{every_set}
use Rattle.laws.proofs.Change.{Puts, change_puts, puts_N}
use Rattle.safety.proofs.Sound.Facts.{Sound}

-- ---- table and sheet

module _ (m : Lent) (e : table_sized m ≡ true) where
  -- the three tests
  pub table_sizes : (between least_pages most_pages (N m) ≡ true) × (eqb (length m.sheet) records ≡ true)
      × (every (λ r. eqb (length r) record_size) m.sheet ≡ true)
  unfolding table_sized
  table_sizes =
      let pages = between least_pages most_pages (N m) in
      let rows = eqb (length m.sheet) records in
      let outer = (and-eq-true_iff (pages && rows) (every (λ r. eqb (length r) record_size) m.sheet)).0 e in
      let inner = (and-eq-true_iff pages rows).0 outer.0 in
      (inner.0, inner.1, outer.1)

  -- there are pages enough
  pub enough_pages : least_pages ≤ N m
  unfolding between
  enough_pages = leb-true _ _ ((and-eq-true_iff (leb least_pages (N m)) (leb (N m) most_pages)).0 table_sizes.0).0

  -- a page's number fits four bytes
  pub few_pages : N m ≤ most_pages
  unfolding between
  few_pages = leb-true _ _ ((and-eq-true_iff (leb least_pages (N m)) (leb (N m) most_pages)).0 table_sizes.0).1

  -- sixteen records
  pub sheet_length : length m.sheet ≡ records
  sheet_length = eqb-true _ _ table_sizes.1

  -- record i is one of them
  pub in_sheet : {i : ℕ} → i < records → i < length m.sheet
  in_sheet h = rw sheet_length h

  -- of 32 bytes each
  pub record_length : (i : ℕ) → i < records → length (record_at m i) ≡ record_size
  unfolding record_at
  record_length i h = eqb-true _ _ (every→ (λ r. eqb (length r) record_size) m.sheet i [] table_sizes.2 (in_sheet h))

  -- one record set to another of right size, and as many pages
  pub tables_kept : (after : Lent) (i : ℕ) (r : List ℕ) → after.sheet ≡ set m.sheet i r → N after ≡ N m → (i < records → length r ≡ record_size)
      → table_sized after ≡ true
  unfolding table_sized
  tables_kept after i r sheets n size =
      rw (n, sheets, table_sizes.0, length-set m.sheet i r, table_sizes.1)
      (every_set (λ r. eqb (length r) record_size) m.sheet i r table_sizes.2 (λ k. eq-eqb _ _ (size (rw sheet_length at k))))

-- ---- memory

module _ (m : Lent) (e : pages_sized m ≡ true) where
  -- the two tests
  pub memory_sizes : (length m.memory ≡ N m) × (every (λ page. eqb (length page) page_size) m.memory ≡ true)
  unfolding pages_sized
  memory_sizes =
      let both = (and-eq-true_iff (eqb (length m.memory) (N m)) (every (λ page. eqb (length page) page_size) m.memory)).0 e in
      (eqb-true _ _ both.0, both.1)

  -- a page below N is in memory
  pub page_there : {p : ℕ} → p < N m → p < length m.memory
  page_there h = rw memory_sizes.0 h

  -- a page in memory is whole
  pub page_whole : (p : ℕ) → p < length m.memory → length (page_at m p) ≡ page_size
  unfolding page_at
  page_whole p h = eqb-true _ _ (every→ (λ page. eqb (length page) page_size) m.memory p [] memory_sizes.1 h)

  -- the same memory, and as many pages
  pub pages_kept : (after : Lent) → after.memory ≡ m.memory → N after ≡ N m → pages_sized after ≡ true
  unfolding pages_sized
  pages_kept after same n = rw (n, same) e

  -- one page set to another of right size
  pub page_set_sized : (p : ℕ) (page : List ℕ) → (p < length m.memory → length page ≡ page_size)
      → pages_sized (with_memory (set m.memory p page) m) ≡ true
  unfolding pages_sized with_memory N
  page_set_sized p page f =
      let whole = every_set (λ page. eqb (length page) page_size) m.memory p page memory_sizes.1 (λ h. eq-eqb _ _ (f h)) in
      rw (length-set m.memory p page, eq-eqb _ _ memory_sizes.0, whole)

  -- a write
  pub written_sized : (p offset : ℕ) (bytes : List ℕ) → pages_sized (write p offset bytes m) ≡ true
  unfolding write written page_at
  written_sized p offset bytes =
      page_set_sized p (sets (get_or m.memory p []) offset bytes) (λ h. length-sets (get_or m.memory p []) offset bytes ∙ page_whole p h)

  -- a page filled with zeros
  pub filled_sized : (p : ℕ) → pages_sized (fill p m) ≡ true
  unfolding fill
  filled_sized p = page_set_sized p (zeros page_size) (λ h. length_zeros page_size)

-- ---- both

-- a machine of right size, with n pages
pub record Sized (n : ℕ) (m : Lent) : Type 0 where
  pub tables : table_sized m ≡ true
  pub memories : pages_sized m ≡ true
  pub number : N m ≡ n

-- as a sound one is
pub sizes_of : {m : Lent} → Sound m → Sized (N m) m
sizes_of s = record { tables = s.tables; memories = s.memories; number = refl }

-- it stays so after a write
pub write_sized : {n : ℕ} (p offset : ℕ) (bytes : List ℕ) (m : Lent) → Sized n m → Sized n (write p offset bytes m)
unfolding table_sized write with_memory N
write_sized p offset bytes m s = record { tables = s.tables; memories = written_sized m s.memories p offset bytes; number = s.number }

-- a page filled with zeros
pub fill_sized : {n : ℕ} (p : ℕ) (m : Lent) → Sized n m → Sized n (fill p m)
unfolding table_sized fill with_memory N
fill_sized p m s = record { tables = s.tables; memories = filled_sized m s.memories p; number = s.number }

-- a table byte put
pub puts_sized : {n p b : ℕ} {m after : Lent} → Puts p b m after → Sized n m → Sized n after
unfolding table_sized
puts_sized {m} {after} h s =
    record {
      tables = rw (puts_N h, h.sheet) s.tables;
      memories = pages_kept m s.memories after h.memory (puts_N h);
      number = puts_N h ∙ s.number;
    }

-- or changed
pub change_sized : {n : ℕ} (f : ℕ → ℕ) (p : ℕ) (m : Lent) → Sized n m → Sized n (change f p m)
change_sized f p m s = puts_sized (change_puts f p m) s

-- a record amended, if that keeps its size
pub amend_sized : {n : ℕ} (f : List ℕ → List ℕ) (i : ℕ) (m : Lent) → ((r : List ℕ) → length r ≡ record_size → length (f r) ≡ record_size) → Sized n m
    → Sized n (amend f i m)
unfolding amend N pages_sized
amend_sized f i m keeps s =
    record {
      tables = tables_kept m s.tables (amend f i m) i (f (record_at m i)) refl refl (λ h. keeps _ (record_length m s.tables i h));
      memories = s.memories;
      number = s.number;
    }

-- and an effect for each number of a list, if each keeps it
pub each_sized : {n : ℕ} (effect : ℕ → Lent → Lent) → ((p : ℕ) (m : Lent) → Sized n m → Sized n (effect p m)) → (ps : List ℕ) (m : Lent) → Sized n m
    → Sized n (each effect ps m)
unfolding each
each_sized effect keeps [] m s = s
each_sized effect keeps (p ∷ ps) m s = each_sized effect keeps ps (effect p m) (keeps p m s)
