-- An entry's reading, test by test: what each test that the code makes says of the definition.
-- Assumes nothing.
use mathlib.Core.Path.{◌≡◌, sym, ◌∙◌, ap, ap₂}
use mathlib.Core.Bool.{Bool, true, false, not, ◌&&◌, cond}
use mathlib.Core.List.{List}
use Prim.Native.Nat.{ℕ, ◌+◌, ◌*◌, ◌^◌, ◌<◌, ◌≤◌}
use native.Mathlib.Omega.{arith}
use lib.Dec.{eqb}
use lib.ListN.{length}
use Rattle.std.specs.Prelude.{Result, Ok, Err}
use Rattle.rules.specs.declared.Refusal.{Refusal}
use Rattle.rules.specs.declared.Refusal.TheVariants.{Address, Parameter}
use Rattle.rules.specs.declared.Entry.{Entry}
use Rattle.rules.specs.declared.ListCall.{ListCall}
use Rattle.rules.specs.declared.ListCall.TheVariants.{Pvalidate, Deposit}
use Rattle.rules.specs.declared.Wish.{Wish}
use Rattle.rules.specs.Words.{page_size, large, bits, bit, range, every, count}
use Rattle.rules.specs.Machine.{N, table_byte, usable}
use Rattle.rules.specs.Lists.{entry_first, entry_pages, covered, malformed, coverable, read_covered, read_entry}
use Rattle.laws.specs.Alone.{table_alone}
use Rattle.laws.proofs.Counts.{every_count, every_not}
use Rattle.laws.proofs.Ranges.{by_test, length_range, every_same}
use Rattle.entries.specs.Reading.{valid_at, wish_of, read_at}
use Rattle.entries.proofs.Coverable.{covered_within, usable_is}

some_pages : (e : ℕ) → 1 ≤ entry_pages e
unfolding entry_pages large
some_pages e = by_test (eqb (bits 1 0 e) 0) (λ t. rw t (omega arith)) (λ t. rw t (omega arith))

-- where it ends is a number of eight bytes
pub ends_fit : (e : ℕ) → entry_first e + entry_pages e < 2 ^ 64
unfolding entry_first entry_pages large bits
ends_fit e = by_test (eqb (bits 1 0 e) 0) (λ t. rw t (omega arith)) (λ t. rw t (omega arith))

-- the pages that it covers, beside its wish
abbrev with_pages : ℕ → ℕ → Result Wish Refusal → Result Entry Refusal
with_pages first n (Ok wish) = Ok (record { first = first; count = n; wish = wish })
with_pages first n (Err why) = Err why

-- the definition's last steps, where `found` of the n pages are valid
module _ (vmpl e : ℕ) (table : List ℕ) (found : ℕ) (within : entry_first e + entry_pages e ≤ length table) (counted : found ≡ count (valid_at table) (covered e)) where
  all_by_count : every (valid_at table) (covered e) ≡ eqb found (entry_pages e)
  unfolding covered
  all_by_count = every_count (valid_at table) (covered e) ∙ ap₂ eqb (sym counted) (length_range (entry_first e) (entry_pages e))

  none_by_count : every (λ p. not (valid_at table p)) (covered e) ≡ eqb found 0
  none_by_count = every_not (valid_at table) (covered e) ∙ ap (λ (k : ℕ). eqb k 0) (sym counted)

  usable_by_count : every (usable vmpl (table_alone table)) (covered e) ≡ eqb found (entry_pages e)
  unfolding covered
  usable_by_count =
      every_same (usable vmpl (table_alone table)) (valid_at table) (entry_first e) (entry_pages e) (λ p l h. usable_is vmpl table p (omega arith))
      ∙ all_by_count

  by_count : (call : ListCall) → read_covered call vmpl e (table_alone table)
      ≡ with_pages (entry_first e) (entry_pages e) (wish_of call (eqb found (entry_pages e)) (eqb found 0) e)
  unfolding read_covered table_byte
  by_count Pvalidate =
      rw (all_by_count, none_by_count)
      (by_test (not (eqb found (entry_pages e)) && not (eqb found 0)) (λ t. rw t)
      (λ t. by_test (cond (bit 2 e) (eqb found (entry_pages e)) (eqb found 0) && not (bit 3 e)) (λ u. rw (t, u)) (λ u. rw (t, u))))
  by_count Deposit = rw usable_by_count (by_test (eqb found (entry_pages e)) (λ t. rw t) (λ t. rw t))

module _ (call : ListCall) (vmpl list e : ℕ) (table : List ℕ) where
  abbrev may_cover : ℕ → Bool
  may_cover = coverable vmpl (page_size * list) (table_alone table)

  pub read_malformed : malformed call e ≡ true → read_at call vmpl list e table ≡ Err Parameter
  unfolding read_at read_entry
  read_malformed t = rw t

  module _ (well : malformed call e ≡ false) (first n : ℕ) (from : first ≡ entry_first e) (many : n ≡ entry_pages e) where
    pub read_foreign : every may_cover (range first n) ≡ false → read_at call vmpl list e table ≡ Err Address
    unfolding read_at read_entry covered
    read_foreign t = rw (well, ← from, ← many, t)

    pub read_beyond : length table < first + n → read_at call vmpl list e table ≡ Err Address
    unfolding N
    read_beyond h =
        by_test (every may_cover (range first n))
        (λ t. absurd (omega (arith, covered_within vmpl (page_size * list) (table_alone table) first n (omega (arith, some_pages e)) t))) read_foreign

    module _ (found : ℕ) (may : every may_cover (range first n) ≡ true) (within : first + n ≤ length table) (counted : found ≡ count (valid_at table) (range first n)) where
      read_on : read_at call vmpl list e table ≡ with_pages first n (wish_of call (eqb found n) (eqb found 0) e)
      unfolding read_at read_entry covered
      read_on = rw (well, ← from, ← many, may, from, many) (by_count vmpl e table found (rw (from, many) at within) (rw (from, many) at counted) call)

      pub read_clean : (wish : Wish) → wish_of call (eqb found n) (eqb found 0) e ≡ Ok wish
          → read_at call vmpl list e table ≡ Ok (record { first = first; count = n; wish = wish })
      read_clean wish is = read_on ∙ rw is

      pub read_refused : (why : Refusal) → wish_of call (eqb found n) (eqb found 0) e ≡ Err why → read_at call vmpl list e table ≡ Err why
      read_refused why is = read_on ∙ rw is
