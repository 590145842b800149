-- "A host written in Rust or C calls the core with numbers and byte buffers only": the definitions that public promises cite. Each tests
-- the sizes of what it is lent, gives everything back unchanged where one is wrong, and else hands over to the definition on pages.
use Rattle.std.specs.Prelude.{ℕ, zero, suc, ◌*◌, ◌/◌, Bool, not, ◌&&◌, List, [], ◌∷◌, ◌++◌, eqb, length, take, drop, Err}
use Rattle.rules.specs.Words.{page_size, least_pages}
use Rattle.rules.specs.Words.{most_pages, records, record_size, registers_size, between, little, number}
use Rattle.rules.specs.Answers.{Registers, Plan, Outcome, BadMachine, Launched, WrongSize, Verdict, refusal, Answered, refuse}
use Rattle.rules.specs.Machine.{Lent, Machine, machine_of}
use Rattle.rules.specs.Launch.{launch}
use Rattle.rules.specs.Steps.{store, mark}
use Rattle.rules.specs.Sound.{sound}
use Rattle.rules.specs.Call.{Posed, call}

-- the first n parts of a list, `size` elements each; as many as there are; and parts joined again
unfoldable pub chop : {A : Type 0} → ℕ → ℕ → List A → List (List A)
chop zero size l = []
chop (suc n) size l = take size l ∷ chop n size (drop size l)

unfoldable pub parts : {A : Type 0} → ℕ → List A → List (List A)
parts size l = chop (length l / size) size l

unfoldable pub join : {A : Type 0} → List (List A) → List A
join [] = []
join (part ∷ parts) = part ++ join parts

-- memory, table and sheet as they are lent; the machine that they are, and back
pub record Buffers : Type 0 where
  pub memory : List ℕ
  pub table : List ℕ
  pub sheet : List ℕ

abbrev pub buffers : List ℕ → List ℕ → List ℕ → Buffers
buffers memory table sheet = record { memory = memory; table = table; sheet = sheet }

unfoldable pub parted : Buffers → Lent
parted b = record { memory = parts page_size b.memory; table = b.table; sheet = parts record_size b.sheet }

unfoldable pub joined : Lent → Buffers
joined m = record { memory = join m.memory; table = m.table; sheet = join m.sheet }

-- "Guest memory: 4,096 x N bytes, N from 3 to 8,192"; "vCPU sheet: 512 bytes"
unfoldable pub memory_fits : ℕ → ℕ → Bool
memory_fits n bytes = between least_pages most_pages n && eqb bytes (page_size * n)

unfoldable pub memory_sized : List ℕ → List ℕ → Bool
memory_sized table memory = memory_fits (length table) (length memory)

unfoldable pub sheet_sized : List ℕ → Bool
sheet_sized sheet = eqb (length sheet) (record_size * records)

unfoldable pub well_sized : Buffers → Bool
well_sized b = memory_sized b.table b.memory && sheet_sized b.sheet

-- a sound machine as it is lent
unfoldable pub sound_bytes : Buffers → Bool
sound_bytes b = well_sized b && sound (parted b)

-- launch: "1 a size wrong", the given N among them
unfoldable pub launch_bytes : ℕ → Plan → Buffers → Answered Launched Buffers
launch_bytes n plan b =
    let l : Answered Launched Machine = launch plan (machine_of (parted b)) in
    refuse b (not (well_sized b && eqb n (length b.table))) (Err WrongSize)
    (record { answer = l.answer; after = joined l.after.lent })

-- a store is lent the table and changes memory, a mark changes the sheet: "Otherwise, a wrong size included, both are refused without
-- change"
unfoldable pub store_bytes : ℕ → ℕ → ℕ → List ℕ → List ℕ → List ℕ → Answered Verdict (List ℕ)
store_bytes c p offset bytes table memory =
    let s : Answered Verdict Lent = store c p offset bytes (parted (buffers memory table [])) in
    refuse memory (not (memory_sized table memory)) (Err refusal) (record { answer = s.answer; after = join s.after.memory })

unfoldable pub mark_bytes : ℕ → ℕ → List ℕ → Answered Verdict (List ℕ)
mark_bytes i value sheet =
    let s : Answered Verdict Lent = mark i value (parted (buffers [] [] sheet)) in
    refuse sheet (not (sheet_sized sheet)) (Err refusal) (record { answer = s.answer; after = join s.after.sheet })

-- the call, with the registers as one record
unfoldable pub call_bytes : ℕ → Posed Registers Buffers → Answered Outcome (Posed Registers Buffers)
call_bytes caller s =
    let a : Answered Outcome (Posed Registers Machine) =
    call caller (record { registers = s.registers; machine = machine_of (parted s.machine) }) in
    refuse s (not (well_sized s.machine)) BadMachine
    (record { answer = a.answer; after = record { registers = a.after.registers; machine = joined a.after.machine.lent } })

-- "Registers: 48 bytes, eight each: RAX, RCX, RDX, R8, R9, and the exit reason"
unfoldable pub registers_of : List ℕ → Registers
registers_of bytes =
    let at : ℕ → ℕ = λ k. number 8 bytes (8 * k) in
    record { rax = at 0; rcx = at 1; rdx = at 2; r8 = at 3; r9 = at 4; reason = at 5 }

unfoldable pub register_bytes : Registers → List ℕ
register_bytes g =
    little 8 g.rax ++ little 8 g.rcx ++ little 8 g.rdx ++ little 8 g.r8 ++ little 8 g.r9 ++ little 8 g.reason

-- the call at the byte door, where the registers' size is tested too
unfoldable pub door_bytes : ℕ → Posed (List ℕ) Buffers → Answered Outcome (Posed (List ℕ) Buffers)
door_bytes caller s =
    let a : Answered Outcome (Posed Registers Buffers) =
    call_bytes caller (record { registers = registers_of s.registers; machine = s.machine }) in
    refuse s (not (eqb (length s.registers) registers_size)) BadMachine
    (record { answer = a.answer; after = record { registers = register_bytes a.after.registers; machine = a.after.machine } })
