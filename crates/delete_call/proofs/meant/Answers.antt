-- Where no record is found Delete is refused; one that is found is one of the sheet's, and names pages below N.
use mathlib.Core.Path.{sym, ◌∙◌}
use Rattle.std.proofs.Common.{rules}
use Rattle.std.proofs.lemmas.Result.{err_from_is_err_and}
use Rattle.rules.specs.Words.{records, page_size}
use Rattle.rules.specs.Answers.{refuse}
use Rattle.rules.specs.Machine.{page_of}
use Rattle.rules.specs.Calls.{named_by, delete}
use Rattle.rules.specs.Flat.{parted}
use Rattle.laws.proofs.Tested.{rows_tested}
use Rattle.sheet.specs.Named.{live_named}
use Rattle.delete_call.proofs.Found.{found}
use Rattle.delete_call.proofs.meant.Goals as goal

pub returns-in_err-i-clause-code : goal.returns-in_err-i-clause-code
unfolding delete refuse named_by parted live_named records page_of page_size
returns-in_err-i-clause-code c =
    let p = err_from_is_err_and c.from_residual.result c.from_residual.ensures.1 in
    rw (p.1, p.2) (search (rules, rows_tested _ _ c.requires))

pub returns-clause-found : goal.returns-clause-found
returns-clause-found c = found _ _ _ _ c.requires (sym c.lowest.ensures.place ∙ c.in_ok-i.ensures.ok_part)
