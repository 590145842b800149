-- One is added for each page that is valid.
use mathlib.Core.Path.{◌≡◌, ◌∙◌}
use mathlib.Core.Bool.{cond}
use Prim.Native.Nat.{ℕ, ◌+◌, ◌-◌}
use native.Mathlib.Omega.{arith}
use lib.ListN.{take, drop}
use Rattle.std.proofs.Common.{rules}
use Rattle.std.proofs.lemmas.Iterator.{YieldsList-from_slice, YieldsList-from_map}
use Rattle.std.proofs.lemmas.Iterator.Consumers.{sum_by_from_yields_List, fits_by_from_yields_list}
use Rattle.rules.specs.Machine.{valid}
use Rattle.entries.proofs.Ranges.{sum_of_part, sum_within}
use Rattle.entries.proofs.covered.count_valid.Goals as goal

abbrev one : ℕ → ℕ
one b = cond (valid b) 1 0

pub sum-requires-clause-fits : goal.sum-requires-clause-fits
sum-requires-clause-fits c =
    let a = c.args in
    let n : a.first + a.n - a.first ≡ a.n = omega arith in
    let part = take (a.first + a.n - a.first) (drop a.first a.table.now) in
    fits_by_from_yields_list one part _ _ (YieldsList-from_map _ one (YieldsList-from_slice part (cc)) c.map.ensures.closure (λ x r q k. search rules))
    (rw n (omega (arith, sum_within valid a.table.now a.first a.n c.requires)))

pub returns : goal.returns
returns c =
    let a = c.args in
    let n : a.first + a.n - a.first ≡ a.n = omega arith in
    let part = take (a.first + a.n - a.first) (drop a.first a.table.now) in
    sum_by_from_yields_List one part _ _ c.sum.ensures.ran (YieldsList-from_map _ one (YieldsList-from_slice part (cc)) c.map.ensures.closure (λ x r q k. search rules))
    ∙ rw n (sum_of_part valid a.table.now a.first a.n c.requires)
