-- What the tests of outcome 3 have shown of a machine that is held.
use Rattle.std.proofs.Common.{ℕ, ◌<◌, length}
use Rattle.rules.specs.Words.{records}
use Rattle.rules.specs.Machine.{record_at, vcpu}
use Rattle.rules.specs.Flat.{parted}
use Rattle.laws.specs.Tested.{Tested}
use Rattle.laws.proofs.Tested.{caller_below, caller_names}
use Rattle.machine.specs.Held.{bytes_of, lent_of}
use Rattle.machine.specs.declared.held.Machine.{Machine}

-- the caller's record is one of the sheet's, and names a page of the table
module _ (m : Machine) (caller : ℕ) (t : Tested (bytes_of m) caller) where
  pub caller_in : caller < records
  caller_in = caller_below (bytes_of m) caller t

  pub area_in : (vcpu (lent_of m) caller).calling < length m.table.now
  unfolding vcpu record_at parted
  area_in = (caller_names (bytes_of m) caller t).calling
