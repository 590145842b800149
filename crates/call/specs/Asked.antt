-- What a call is lent, as the code holds it: the registers, and the machine in the words of the definitions.
use Rattle.rules.specs.declared.Registers.{Registers}
use Rattle.rules.specs.Machine
use Rattle.rules.specs.Call.{Posed}
use Rattle.machine.specs.declared.held.Machine.{Machine}
use Rattle.machine.specs.Held.{lent_of}

abbrev pub posed : Registers → Machine → Posed Registers Rattle.rules.specs.Machine.Machine
posed g m = record { registers = g; machine = Rattle.rules.specs.Machine.machine_of (lent_of m) }
