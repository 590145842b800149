-- What is looked for in live records: an APIC ID, a VMSA page, or a number in a field.
use Rattle.std.specs.Prelude.{Bool, ◌&&◌, List, ℕ, ◌+◌, ◌≤◌, ⊤, eqb}
use Rattle.rules.specs.Words.{number, record_size}
use Rattle.rules.specs.Machine.{fields, is_live}
use Rattle.sheet.specs.declared.live.Named.{Named}
use Rattle.sheet.specs.declared.live.Named.TheVariants.{Apic, Vmsa, Field}

-- a live record with n in the four bytes of a field
unfoldable pub live_with : ℕ → ℕ → List ℕ → Bool
live_with field n r = is_live r && eqb (number 4 r field) n

-- a live record that has it
unfoldable pub live_named : Named → List ℕ → Bool
live_named (Apic apic) r = is_live r && eqb (fields r).apic apic
live_named (Vmsa page) r = is_live r && eqb (fields r).vmsa page
live_named (Field field n) r = live_with field n r

-- the field that is looked in ends in the record
abbrev pub InRecord : Named → Type 0
InRecord (Apic apic) = ⊤
InRecord (Vmsa page) = ⊤
InRecord (Field field n) = field + 4 ≤ record_size
