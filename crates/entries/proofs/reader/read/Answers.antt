-- Why the wish is refused is handed on.
use mathlib.Core.Path.{sym, ◌∙◌}
use native.Mathlib.Omega.{arith}
use Rattle.std.proofs.lemmas.Result.{err_from_is_err_and}
use Rattle.entries.proofs.Reading.{read_refused}
use Rattle.entries.proofs.reader.read.Goals as goal

pub returns-in_err-wish-clause-is : goal.returns-in_err-wish-clause-is
returns-in_err-wish-clause-is c =
    let why = err_from_is_err_and c.from_residual.result c.from_residual.ensures.1 in
    let refused = read_refused _ c.args.vmpl c.args.list _ c.args.table.now (sym c.is_malformed.ensures ∙ c.if-is_malformed.false) _ _ c.page-first.ensures c.pages-count.ensures _
    (sym c.all_coverable.ensures ∙ c.if-not-all_coverable.false) (omega arith) c.count_valid-found.ensures _ (sym c.wish_of.ensures ∙ c.in_err-wish.was) in
    rw (why.1, why.2) (sym refused)
