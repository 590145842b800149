-- Record i of a sheet that is lent as one slice.
use Rattle.std.specs.Prelude.{ℕ, List, [], get_or}
use Rattle.rules.specs.Words.{record_size}
use Rattle.rules.specs.declared.Vcpu.{Vcpu}
use Rattle.rules.specs.Machine.{fields}
use Rattle.rules.specs.Flat.{parts}

abbrev pub row : List ℕ → ℕ → List ℕ
row sheet i = get_or (parts record_size sheet) i []

abbrev pub vcpu_in : List ℕ → ℕ → Vcpu
vcpu_in sheet i = fields (row sheet i)
