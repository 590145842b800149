use mathlib.Core.Path.{◌≡◌, refl, ap}
use Prim.Native.Nat.{ℕ}
use native.Mathlib.Omega.{arith}
use Rattle.std.specs.declared.ops.Range.{Range}
use mathlib.Core.Bool.{true, false}
use Rattle.std.proofs.Common.{rules}
use Rattle.std.proofs.lemmas.Iterator.{cases_from_any, YieldsList-from_range}
use Rattle.rules.specs.Words.{records, record_size}
use Rattle.rules.specs.Sound.{bad_record}
use Rattle.sheet.specs.Row.{row}
use Rattle.sheet.proofs.Places.{asked}
use Rattle.sheet.proofs.shape.any_bad.Goals as goal

pub returns : goal.returns
unfolding records record_size
returns c =
    let upto : ℕ → Range ℕ = λ e. record { start = 0; end = e } in
    let test = bad_record c.args.n in let sheet = c.args.sheet.now in
    asked test sheet c.told-sheet c.any.result
    (cases_from_any _ _ c.any.result (λ i. test (row sheet i) ≡ true) (λ i. test (row sheet i) ≡ false) c.any.ensures.ran
    (YieldsList-from_range 0 records records (ap upto (omega arith)) refl) (λ x q k. search rules) (λ x q k. search rules))
