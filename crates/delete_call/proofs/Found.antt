-- The record that is found is one of the sheet's, and live, and so names pages below N.
-- Assumes nothing.
use mathlib.Core.Path.{◌≡◌}
use mathlib.Core.Bool.{and-eq-true_iff}
use mathlib.Core.List.{[]}
use Prim.Native.Nat.{ℕ, ◌<◌}
use native.Mathlib.Omega.{arith}
use lib.ListN.{length}
use Rattle.std.specs.Prelude.{Some, position}
use Rattle.std.proofs.lemmas.List.Quantifiers.{position-Some}
use Rattle.rules.specs.Words.{records, record_size}
use Rattle.rules.specs.Machine.{record_at}
use Rattle.rules.specs.Flat.{Buffers, parts, parted}
use Rattle.laws.specs.Tested.{Tested, Names}
use Rattle.laws.proofs.Tested.{rows_tested, live_names}
use Rattle.sheet.specs.Named.{live_named}
use Rattle.sheet.specs.declared.live.Named.TheVariants.{Vmsa}

pub found : (b : Buffers) (caller i page : ℕ) → Tested b caller → position (live_named (Vmsa page)) (parts record_size b.sheet) ≡ Some i
    → (i < records) × Names (length b.table) (record_at (parted b) i)
unfolding live_named record_at parted
found b caller i page t e =
    let there = position-Some (live_named (Vmsa page)) (parts record_size b.sheet) i [] e in
    let below : i < records = omega (arith, rows_tested b caller t, there.0) in
    (below, live_names b caller t i below ((and-eq-true_iff _ _).0 there.1).0)
