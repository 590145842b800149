-- An entry's reading in a whole machine: it goes by the table and the list's page alone.
-- Assumes nothing.
use mathlib.Core.Path.{◌≡◌, refl}
use Prim.Native.Nat.{ℕ, ◌*◌}
use Rattle.rules.specs.declared.ListCall.{ListCall}
use Rattle.rules.specs.declared.ListCall.TheVariants.{Pvalidate, Deposit}
use Rattle.rules.specs.Words.{page_size}
use Rattle.rules.specs.Machine.{Lent, page_of, table_byte, usable}
use Rattle.rules.specs.Lists.{coverable, read_covered, read_entry}
use Rattle.laws.specs.Alone.{table_alone}
use Rattle.laws.proofs.Usable.{usable_alone}
use Rattle.entries.specs.Reading.{read_at}
use Rattle.entries.proofs.Coverable.{coverable_alone}

covered_whole : (call : ListCall) (vmpl e : ℕ) (m : Lent) → read_covered call vmpl e m ≡ read_covered call vmpl e (table_alone m.table)
unfolding read_covered table_byte
covered_whole Pvalidate vmpl e m = refl
covered_whole Deposit vmpl e m =
    let same : usable vmpl m ≡ usable vmpl (table_alone m.table) = λ i p. usable_alone vmpl m p i in
    rw same

pub read_whole : (call : ListCall) (vmpl rcx e : ℕ) (m : Lent) → read_entry call vmpl rcx e m ≡ read_at call vmpl (page_of rcx) e m.table
unfolding read_at read_entry
read_whole call vmpl rcx e m =
    let same : coverable vmpl rcx m ≡ coverable vmpl (page_size * page_of rcx) (table_alone m.table) = λ i p. coverable_alone vmpl rcx m p i in
    rw (same, covered_whole call vmpl e m)
