-- What is looked for among the records in their order: what a walk over the numbers of the records has seen.
-- Assumes nothing.
use mathlib.Core.Path.{◌≡◌, sym, ◌∙◌, ap}
use mathlib.Core.Bool.{Bool, true, false}
use mathlib.Core.List.{List, []}
use Prim.Native.Nat.{ℕ, ◌*◌, ◌<◌, ◌≤◌}
use native.Mathlib.Omega.{arith}
use lib.ListN.{length, get_or}
use Rattle.std.specs.Prelude.{Option, Some, None, position, unwrap_or, IfSome, MatchOption, MatchBool}
use Rattle.std.specs.List.{range_with_len, HoldsAt, AllWithin}
use Rattle.std.proofs.lemmas.List.Quantifiers.{position-Some}
use Rattle.std.proofs.lemmas.List.FromFn.{length-range_with_len, get_or-range_with_len}
use Rattle.rules.specs.Words.{records, record_size, lowest, exists}
use Rattle.rules.specs.Flat.{parts}
use Rattle.laws.proofs.Ranges.{lowest_is, →exists, →absent}
use Rattle.laws.proofs.Places.{placed, place_or_length}
use Rattle.sheet.specs.Row.{row}
use Rattle.sheet.proofs.At.{rows_of}

module _ (test : List ℕ → Bool) (sheet : List ℕ) (sized : length sheet ≡ record_size * records) where
  -- a walk over the numbers of the records that stops at the first whose record passes
  pub found : (r : Option ℕ) → MatchOption r ((k : ℕ) → 0 ≤ k → k < records → test (row sheet k) ≡ false)
      (λ i. (0 ≤ i) × (i < records) × (test (row sheet i) ≡ true) × ((k : ℕ) → 0 ≤ k → k < i → test (row sheet k) ≡ false))
      → r ≡ position test (parts record_size sheet)
  found None seen = rw (placed test (parts record_size sheet), →absent test (parts record_size sheet) [] (λ k h. seen k (omega arith) (omega (arith, rows_of sheet sized, h))))
  found (Some i) seen =
      let rows = parts record_size sheet in
      rw (
        placed test rows,
        →exists test rows i [] (omega (arith, rows_of sheet sized, seen.1)) seen.2,
        lowest_is test rows i [] seen.2 (λ k h. seen.3 k (omega arith) h),
      )

  -- it is the number of a record; where none was found, the number of records stands for it
  pub place_below : (r : Option ℕ) → r ≡ position test (parts record_size sheet) → IfSome r (λ i. i < records)
  place_below None e = tt {0}
  place_below (Some i) e = omega (arith, (position-Some test (parts record_size sheet) i [] (sym e)).0, rows_of sheet sized)

  pub place_or_records : unwrap_or (position test (parts record_size sheet)) records ≡ lowest test (parts record_size sheet)
  place_or_records = rw (← rows_of sheet sized, place_or_length test (parts record_size sheet))

  -- and one that asks whether any record passes
  step : (k : ℕ) → k < records → test (row sheet (get_or (range_with_len 0 records) k 0)) ≡ test (row sheet k)
  step k h = ap (λ j. test (row sheet j)) (omega (arith, get_or-range_with_len 0 records k 0 h))

  pub asked : (r : Bool) → MatchBool r ((k : ℕ) × (k < length (range_with_len 0 records)) × HoldsAt (λ i. test (row sheet i) ≡ true) (range_with_len 0 records) k)
      (AllWithin (λ i. test (row sheet i) ≡ false) (range_with_len 0 records) 0 (length (range_with_len 0 records)))
      → r ≡ exists test (parts record_size sheet)
  asked true (k, h, passes) =
      let inside : k < records = omega (arith, length-range_with_len 0 records, h) in
      sym (→exists test (parts record_size sheet) k [] (omega (arith, rows_of sheet sized, inside)) (sym (step k inside) ∙ passes 0))
  asked false fails =
      sym (→absent test (parts record_size sheet) [] (λ k h.
      let inside : k < records = omega (arith, rows_of sheet sized, h) in
      sym (step k inside) ∙ fails k 0 (omega arith) (omega (arith, length-range_with_len 0 records, inside))))
