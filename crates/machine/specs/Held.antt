-- What the struct `Machine` says in the words of the definitions, and which buffers it holds.
use Rattle.std.specs.Prelude.{◌≡◌, length}
use Rattle.rules.specs.Machine.{Lent}
use Rattle.rules.specs.Flat.{Buffers, buffers, parted}
use Rattle.machine.specs.declared.held.Machine.{Machine}

-- the bytes that it holds, and the machine that they are
abbrev pub bytes_of : Machine → Buffers
bytes_of m = buffers m.memory.now m.table.now m.sheet.now

abbrev pub lent_of : Machine → Lent
lent_of m = parted (bytes_of m)

-- it holds the buffers that it held: where the whole of it was lent, its owner finds in them what was written
pub record SameBuffers (old new : Machine) : Type 0 where
  pub memory : new.memory.ghost_name ≡ old.memory.ghost_name
  pub table : new.table.ghost_name ≡ old.table.ghost_name
  pub sheet : new.sheet.ghost_name ≡ old.sheet.ghost_name
  pub pages : length new.table.now ≡ length old.table.now
