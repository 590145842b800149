-- A call on flat bytes: where it is bad nothing changes, and else the buffers are those whose parts are the machine that comes back.
use mathlib.Core.Path.{◌≡◌}
use mathlib.Core.Bool.{true, false}
use mathlib.Core.List.{List}
use Prim.Native.Nat.{ℕ}
use native.Mathlib.Omega.{arith}
use lib.ListN.{length}
use Rattle.rules.specs.Words.{records, record_size}
use Rattle.rules.specs.declared.Registers.{Registers}
use Rattle.rules.specs.declared.Outcome.{Outcome}
use Rattle.rules.specs.declared.Outcome.TheVariants.{BadMachine}
use Rattle.rules.specs.Answers.{refuse}
use Rattle.rules.specs.Machine.{N, machine_of}
use Rattle.rules.specs.Call.{bad_machine, bad_sheet, call}
use Rattle.rules.specs.Flat.{Buffers, buffers, parts, parted, memory_fits, well_sized, call_bytes}
use Rattle.laws.specs.Tested.{Tested}
use Rattle.laws.proofs.FlatLaunch.{joined_parted, well_sized_by}

-- what the tests have shown, once they are passed
module _ (memory table sheet : List ℕ) (fits : memory_fits (length table) (length memory) ≡ true) (whole : length sheet ≡ 512) where
  pub sized : well_sized (buffers memory table sheet) ≡ true
  unfolding records record_size
  sized = well_sized_by (buffers memory table sheet) fits (omega arith)

  pub tested : (caller : ℕ) → bad_sheet (length table) caller (parts record_size sheet) ≡ false → Tested (buffers memory table sheet) caller
  unfolding bad_machine N parted
  tested caller shape = record { sized = sized; shape = shape }

module _ (caller : ℕ) (g : Registers) (b : Buffers) where
  pub call_unsized : well_sized b ≡ false
      → call_bytes caller (record { registers = g; machine = b }) ≡ record { answer = BadMachine; after = record { registers = g; machine = b } }
  unfolding call_bytes refuse
  call_unsized e = rw e

  module _ (sized : well_sized b ≡ true) where
    pub call_bad : bad_machine caller (parted b) ≡ true
        → call_bytes caller (record { registers = g; machine = b }) ≡ record { answer = BadMachine; after = record { registers = g; machine = b } }
    unfolding call_bytes call refuse
    call_bad e = rw (sized, e, joined_parted b sized)

    pub came_back : (after : Buffers) (r : Registers) (o : Outcome) → well_sized after ≡ true
        → call caller (record { registers = g; machine = machine_of (parted b) }) ≡ record { answer = o; after = record { registers = r; machine = machine_of (parted after) } }
        → call_bytes caller (record { registers = g; machine = b }) ≡ record { answer = o; after = record { registers = r; machine = after } }
    unfolding call_bytes refuse
    came_back after r o same e = rw (sized, e, joined_parted after same)
