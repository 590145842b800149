-- A register at a time.
use Rattle.rules.specs.Words.{registers_size}
use Rattle.rules.specs.Flat.{register_bytes}
use Rattle.door.proofs.Registers.{bytes_of, none, ◌then◌, all}
use Rattle.door.proofs.write_registers.Goals as goal

pub returns : goal.returns
unfolding registers_size register_bytes bytes_of
returns c =
    let front =
    none then c.write.ensures then c.write-2.ensures then c.write-3.ensures then c.write-4.ensures then c.write-5.ensures
    then c.write-6.ensures in
    all front c.requires
