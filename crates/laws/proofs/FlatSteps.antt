-- The mark and the store on flat bytes: where they are refused nothing changes, and where they are done the changed parts are joined.
use mathlib.Core.Path.{◌≡◌, ◌∙◌, ap}
use mathlib.Core.Bool.{true, false, ◌&&◌, and-eq-true_iff}
use mathlib.Core.List.{List, [], ◌∷◌}
use Prim.Native.Nat.{ℕ, ◌*◌, ◌≤◌}
use native.Mathlib.Omega.{arith}
use lib.Dec.{eqb, leb, lit<}
use lib.ListN.{length}
use borrow.Author.Tests.{eqb-true, leb-true}
use Rattle.std.specs.Prelude.{Ok, Err}
use Rattle.rules.specs.Words.{between, page_size, least_pages, most_pages, records, record_size}
use Rattle.rules.specs.Answers.{refusal, refuse}
use Rattle.rules.specs.Machine.{Lent, amend, record_at, write, with_memory, written}
use Rattle.rules.specs.Steps.{store, may_store, mark, may_mark}
use Rattle.rules.specs.Flat.{buffers, parts, join, parted, store_bytes, mark_bytes, memory_fits, memory_sized, sheet_sized}
use Rattle.laws.proofs.Parts.{join_parts, length_parts}

-- what sizes that fit say
pub record Sizes (n bytes : ℕ) : Type 0 where
  pub least : least_pages ≤ n
  pub most : n ≤ most_pages
  pub whole : bytes ≡ page_size * n

pub sizes : (n bytes : ℕ) → memory_fits n bytes ≡ true → Sizes n bytes
unfolding memory_fits between
sizes n bytes e =
    let both = (and-eq-true_iff (leb least_pages n && leb n most_pages) (eqb bytes (page_size * n))).0 e in
    let range = (and-eq-true_iff (leb least_pages n) (leb n most_pages)).0 both.0 in
    record { least = leb-true _ _ range.0; most = leb-true _ _ range.1; whole = eqb-true _ _ both.1 }

-- the parts of a buffer of right size, joined, are the buffer
pub join_memory : (table memory : List ℕ) → memory_sized table memory ≡ true → join (parts page_size memory) ≡ memory
unfolding memory_sized page_size
join_memory table memory e = join_parts (length table) page_size memory (lit< tt) (sizes (length table) (length memory) e).whole

-- memory of right size has a page for each byte of the table
pub length_pages : (table memory : List ℕ) → memory_sized table memory ≡ true → length (parts page_size memory) ≡ length table
unfolding memory_sized page_size
length_pages table memory e = length_parts page_size memory ∙ omega (arith, (sizes (length table) (length memory) e).whole)

pub sized_sheet : (sheet : List ℕ) → sheet_sized sheet ≡ true → length sheet ≡ record_size * records
unfolding sheet_sized
sized_sheet sheet e = eqb-true (length sheet) (record_size * records) e

pub join_sheet : (sheet : List ℕ) → sheet_sized sheet ≡ true → join (parts record_size sheet) ≡ sheet
unfolding record_size
join_sheet sheet e = join_parts records record_size sheet (lit< tt) (sized_sheet sheet e)

-- the machine of a sheet that is lent alone
abbrev pub of_sheet : List ℕ → Lent
of_sheet sheet = parted (buffers [] [] sheet)

module _ (i value : ℕ) (sheet : List ℕ) where
  pub mark_unsized : sheet_sized sheet ≡ false → mark_bytes i value sheet ≡ record { answer = Err refusal; after = sheet }
  unfolding mark_bytes refuse
  mark_unsized e = rw e

  pub mark_refused : sheet_sized sheet ≡ true → may_mark i value (of_sheet sheet) ≡ false
      → mark_bytes i value sheet ≡ record { answer = Err refusal; after = sheet }
  unfolding mark_bytes mark refuse parted
  mark_refused s e = rw (s, e, join_sheet sheet s)

  -- done: a sheet whose record i has the byte +2
  pub mark_done : (after : List ℕ) → sheet_sized sheet ≡ true → may_mark i value (of_sheet sheet) ≡ true
      → length after ≡ length sheet → parts record_size after ≡ written i 2 (value ∷ []) (parts record_size sheet)
      → mark_bytes i value sheet ≡ record { answer = Ok tt; after = after }
  unfolding mark_bytes mark refuse parted amend record_at written sheet_sized
  mark_done after s e l w = rw (s, e, ← w, join_sheet after (ap (λ (n : ℕ). eqb n (record_size * records)) l ∙ s))

-- the machine of a memory and a table that are lent without a sheet
abbrev pub of_memory : List ℕ → List ℕ → Lent
of_memory table memory = parted (buffers memory table [])

module _ (c p offset : ℕ) (bytes table memory : List ℕ) where
  pub store_unsized : memory_sized table memory ≡ false → store_bytes c p offset bytes table memory ≡ record { answer = Err refusal; after = memory }
  unfolding store_bytes refuse
  store_unsized e = rw e

  pub store_refused : memory_sized table memory ≡ true → may_store c p offset (length bytes) (of_memory table memory) ≡ false
      → store_bytes c p offset bytes table memory ≡ record { answer = Err refusal; after = memory }
  unfolding store_bytes store refuse parted
  store_refused s e = rw (s, e, join_memory table memory s)

  -- done: a memory whose page p has the bytes
  pub store_done : (after : List ℕ) → memory_sized table memory ≡ true → may_store c p offset (length bytes) (of_memory table memory) ≡ true
      → length after ≡ length memory → parts page_size after ≡ written p offset bytes (parts page_size memory)
      → store_bytes c p offset bytes table memory ≡ record { answer = Ok tt; after = after }
  unfolding store_bytes store refuse parted write with_memory memory_sized
  store_done after s e l w = rw (s, e, ← w, join_memory table after (ap (λ (n : ℕ). memory_fits (length table) n) l ∙ s))
