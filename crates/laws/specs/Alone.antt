-- A machine of which a part alone is lent: what a function is told of that sees no more.
use Rattle.std.specs.Prelude.{List, [], ℕ}
use Rattle.rules.specs.Words.{page_size}
use Rattle.rules.specs.Machine.{Lent}
use Rattle.rules.specs.Flat.{parts}

-- the table alone
abbrev pub table_alone : List ℕ → Lent
table_alone table = record { memory = []; table = table; sheet = [] }

-- memory and table, without the sheet
abbrev pub without_sheet : List ℕ → List ℕ → Lent
without_sheet memory table = record { memory = parts page_size memory; table = table; sheet = [] }
