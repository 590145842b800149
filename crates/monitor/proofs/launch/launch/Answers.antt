-- What the checks refuse is the definition's, and what is made is the definition's.
use mathlib.Core.Path.{◌≡◌, refl, sym, ◌∙◌}
use Prim.Native.Nat.{◌*◌}
use native.Mathlib.Omega.{arith}
use lib.ListN.{length}
use borrow.Author.Tests.{eq-eqb}
use Rattle.std.proofs.Common.{rules}
use Rattle.std.proofs.lemmas.Result.{err_from_is_err_and}
use Rattle.rules.specs.Words.{records, record_size}
use Rattle.rules.specs.Machine.{N, page_at}
use Rattle.rules.specs.Flat.{buffers, parted}
use Rattle.rules.specs.Promises.{LaunchPromise}
use Rattle.laws.proofs.FlatLaunch.{well_sized_by, launch_made}
use Rattle.machine.specs.Held.{bytes_of}
use Rattle.monitor.proofs.Checked.{refused, passed}
use Rattle.monitor.proofs.launch.launch.Goals as goal

pub returns-in_err-checked : goal.returns-in_err-checked
unfolding LaunchPromise record_size records
returns-in_err-checked c =
    let a = c.args in let lent = buffers a.memory.now a.table.now a.sheet.now in
    let sized = well_sized_by lent (sym c.fits.ensures ∙ c.if-not-fits.false) (omega (arith, c.in-Some.ensures.variant.0 refl)) in
    let p = err_from_is_err_and c.from_residual.result c.from_residual.ensures.1 in
    rw (p.1, p.2, c.in-Some.ensures.cases.same) (refused a.plan lent a.n _ sized (eq-eqb _ _ c.if-n-table.false) (sym c.in_err-checked.was ∙ c.checked.ensures))

pub make-requires : goal.make-requires
make-requires c = let a = c.args in (passed a.plan (buffers a.memory.now a.table.now a.sheet.now) (sym c.in_ok-checked.was ∙ c.checked.ensures)).0

pub returns : goal.returns
unfolding LaunchPromise N parted page_at record_size records
returns c =
    let a = c.args in let lent = buffers a.memory.now a.table.now a.sheet.now in
    let sized = well_sized_by lent (sym c.fits.ensures ∙ c.if-not-fits.false) (omega (arith, c.in-Some.ensures.variant.0 refl)) in
    let tests = passed a.plan lent (sym c.in_ok-checked.was ∙ c.checked.ensures) in
    let now = c.make.new.machine in
    let long : length now.sheet.now ≡ record_size * records = search rules in
    launch_made a.n a.plan lent sized (eq-eqb _ _ c.if-n-table.false) tests.0 tests.1 (bytes_of now) tests.2 (well_sized_by _ now.sized long)
    (c.make.ensures.done ∙ rw c.in-Some.ensures.cases.same)
    ∙ search rules
