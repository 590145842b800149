-- The sizes are tested first, then what outcome 3 names; else the machine comes back as the definition has it, and its buffers are those that were lent.
use mathlib.Core.Path.{sym, ◌∙◌, ap}
use Rattle.std.proofs.Common.{rules}
use lib.ListN.{length}
use borrow.Author.Tests.{ne_eqb}
use Rattle.rules.specs.Words.{records, record_size}
use Rattle.rules.specs.Machine.{N}
use Rattle.rules.specs.Call.{bad_machine}
use Rattle.rules.specs.Flat.{parted, memory_sized, sheet_sized, well_sized}
use Rattle.rules.specs.Promises.{CallPromise}
use Rattle.call.proofs.Outcomes.{sized, tested, call_unsized, call_bad, came_back}
use Rattle.call.proofs.call.Goals as goal

pub returns-then-not-fits : goal.returns-then-not-fits
unfolding CallPromise well_sized memory_sized
returns-then-not-fits c = rw c.left.ensures (call_unsized _ _ _ (rw (sym c.fits.ensures ∙ c.if-not-fits.true)))

pub returns-in_default : goal.returns-in_default
unfolding CallPromise well_sized memory_sized sheet_sized record_size records
returns-in_default c =
    rw c.left-in_default.ensures
    (call_unsized _ _ _ (rw (sym c.fits.ensures ∙ c.if-not-fits.false, ne_eqb (length c.args.sheet.now) 512 c.in_default.ensures.cases)))

pub returns-then-bad_sheet : goal.returns-then-bad_sheet
unfolding CallPromise bad_machine N parted
returns-then-bad_sheet c =
    let whole = c.in-Some.ensures.cases in
    let well = sized c.args.memory.now c.args.table.now c.args.sheet.now (sym c.fits.ensures ∙ c.if-not-fits.false) whole.long in
    let bad = rw whole.same at (sym c.bad_sheet.ensures ∙ c.if-bad_sheet.true) in
    rw (c.left-then-bad_sheet.ensures, whole.same) (call_bad _ _ _ well bad)

pub come_back-outcome-requires : goal.come_back-outcome-requires
come_back-outcome-requires c =
    let whole = c.in-Some.ensures.cases in
    tested c.args.memory.now c.args.table.now c.in-Some.sheet.now (sym c.fits.ensures ∙ c.if-not-fits.false) (ap length whole.same ∙ whole.long) _ (sym c.bad_sheet.ensures ∙ c.if-bad_sheet.false)

pub returns : goal.returns
unfolding CallPromise
returns c =
    let whole = c.in-Some.ensures.cases in
    let well = sized c.args.memory.now c.args.table.now c.args.sheet.now (sym c.fits.ensures ∙ c.if-not-fits.false) whole.long in
    let done = rw whole.same at c.come_back-outcome.ensures.done in
    let after = c.come_back-outcome.new.machine in
    let came = came_back _ _ _ well _ _ _ (sized after.memory.now after.table.now after.sheet.now after.sized (search rules)) done in
    search rules
