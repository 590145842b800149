use mathlib.Core.Path.{◌≡◌}
use mathlib.Core.Bool.{true, false}
use Rattle.std.specs.Prelude.{position}
use Rattle.std.proofs.Common.{rules}
use Rattle.std.proofs.lemmas.Iterator.{first_from_Range}
use Rattle.rules.specs.Words.{records, record_size}
use Rattle.rules.specs.Flat.{parts}
use Rattle.sheet.specs.Row.{row}
use Rattle.sheet.specs.Named.{live_named}
use Rattle.sheet.proofs.Places.{found, place_below, place_or_records}
use Rattle.sheet.proofs.live.lowest.Goals as goal

pub returns : goal.returns
unfolding records record_size
returns c =
    let test = live_named c.args.name in let sheet = c.args.sheet.now in
    let place : c.find.result ≡ position test (parts record_size sheet) =
    found test sheet c.told-sheet c.find.result
    (first_from_Range _ _ _ c.find.result (λ i. test (row sheet i) ≡ true) (λ i. test (row sheet i) ≡ false) c.find.ensures.ran
    (λ x q k. search rules) (λ x q k. search rules)) in
    record {
      place = place;
      below = place_below test sheet c.told-sheet c.find.result place;
      lowest = rw place (place_or_records test sheet c.told-sheet);
    }
