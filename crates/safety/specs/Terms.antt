-- The words of the statements: what became of a page, of the pool, of a call that is gone or refused, and what a host does with its bytes. Most of them say again,
-- in numbers, what a rule says, so that a wrong rule breaks a statement and does not move it. Shared with the rules are the table byte's own words (owner, valid,
-- permitted, own, grant), the places in a list, and in AtEntry the run and the entry reader.
use Rattle.std.specs.Prelude.{◌≡◌, Bool, true, false, cond, not, ◌&&◌, ◌||◌, List, [], ◌∷◌, ℕ, zero, suc, ◌+◌, ◌-◌, ◌*◌, ◌/◌, ◌<◌, ◌≤◌, leb, ltb, eqb, get_or, set, Ok, Err}
use Rattle.rules.specs.Words.{page_size, most_pages, record_size, large, multiple, bits, bit, without_bit, little, number, range, every, exists, count}
use Rattle.rules.specs.declared.Registers.{Registers}
use Rattle.rules.specs.declared.Vcpu.{Vcpu}
use Rattle.rules.specs.declared.Outcome.{Outcome}
use Rattle.rules.specs.declared.Outcome.TheVariants.{Handled, NoCall, Gone, BadMachine}
use Rattle.rules.specs.declared.Progress.TheVariants.{Incomplete}
use Rattle.rules.specs.declared.Refusal.{Refusal}
use Rattle.rules.specs.declared.Refusal.TheVariants.{Address, Parameter, SizeMismatch, NoChange}
use Rattle.rules.specs.declared.ListCall.{ListCall}
use Rattle.rules.specs.declared.ListCall.TheVariants.{Pvalidate, Deposit}
use Rattle.rules.specs.Answers.{Code, Answered, outcome_number, code_number, verdict_number}
use Rattle.rules.specs.Steps.{store, mark}
use Rattle.rules.specs.Machine.{Lent, Machine, ◌▷◌, N, below, page_of, page_at, written, write, zeros, owner, plain, pool_free, pool_in_use, valid, permitted}
use Rattle.rules.specs.Machine.{grant, own, table_byte, owned_by, is_live, record_at, vcpu, startup, vmsa_vmpl}
use Rattle.rules.specs.Lists.{list_count, list_next, list_entry, covered, read_entry, run_within}
use Rattle.rules.specs.Calls.{any_free, is_free}
use Rattle.rules.specs.Call.{Posed, with_rax, pending}
use Rattle.rules.specs.Flat.{Buffers, parted, store_bytes, mark_bytes, call_bytes, registers_of, register_bytes, door_bytes}
use Rattle.rules.specs.Runs.{Step, calls, stores, marks, called, step, asks_for, taken_by, given_by, head_accepted}

-- ---- What a call comes back with

-- the outcome, the registers and the machine
abbrev pub Back : Type 0
Back = Answered Outcome (Posed Registers Machine)

-- outcome 0 and code 0, or outcome 2
unfoldable pub done_well : Outcome → Registers → Bool
done_well Handled after = eqb after.rax 0
done_well NoCall after = false
done_well Gone after = true
done_well BadMachine after = false

-- a Delete, done, of this very VMSA
unfoldable pub deleted_by : ℕ → Registers → Back → Bool
deleted_by p g a = asks_for 3 g && eqb (page_of g.rcx) p && done_well a.answer a.after.registers

-- outcome 0 and code 0
unfoldable pub succeeded_by : Back → Bool
succeeded_by a = eqb (outcome_number a.answer) 0 && eqb a.after.registers.rax 0

-- page p is told by the list at RCX: its gPA is an entry below the count
unfoldable pub tells_page : ℕ → ℕ → Lent → Bool
tells_page p rcx m = exists (λ k. eqb (list_entry k rcx m) (page_size * p)) (range 0 (list_count rcx m))

-- a Withdraw with outcome 0 and code 0 that gave back this very page: it is plain after it, and the list tells it
unfoldable pub given_back_by : ℕ → Registers → Back → Bool
given_back_by p g a =
    asks_for 5 g && succeeded_by a && owned_by plain a.after.machine.lent p && tells_page p g.rcx a.after.machine.lent

-- ---- Steps on a machine

unfoldable pub deletes : ℕ → Step → Machine → Bool
deletes p (calls caller g) m = deleted_by p g (called caller g m)
deletes p (stores c q offset bytes) m = false
deletes p (marks i value) m = false

unfoldable pub gives_back : ℕ → Step → Machine → Bool
gives_back p (calls caller g) m = given_back_by p g (called caller g m)
gives_back p (stores c q offset bytes) m = false
gives_back p (marks i value) m = false

-- every store and mark is done, and every call returns success
unfoldable pub succeeds : Step → Machine → Bool
succeeds (calls caller g) m = succeeded_by (called caller g m)
succeeds (stores c p offset bytes) m = eqb (verdict_number (store c p offset bytes m.lent).answer) 0
succeeds (marks i value) m = eqb (verdict_number (mark i value m.lent).answer) 0

unfoldable pub all_succeed : List Step → Machine → Bool
all_succeed [] m = true
all_succeed (s ∷ ss) m = succeeds s m && all_succeed ss (step s m)

-- ---- A page

-- its bytes and bits 7:3 of its table byte, validity and permissions, are as they were
pub record SamePage (p : ℕ) (m after : Lent) : Type 0 where
  pub bytes : page_at after p ≡ page_at m p
  pub flags : table_byte after p / 8 ≡ table_byte m p / 8

-- its bytes and its whole table byte are as they were
pub record KeptPage (p : ℕ) (m after : Lent) : Type 0 where
  pub bytes : page_at after p ≡ page_at m p
  pub byte : table_byte after p ≡ table_byte m p

-- ---- The pool

unfoldable pub in_use : Lent → ℕ
in_use m = count (λ b. eqb (owner b) pool_in_use) m.table

unfoldable pub free : Lent → ℕ
free m = count is_free m.table

-- a list at offset 8 has room for (4,096 - 8 - 8) / 8 = 510 pages
unfoldable pub rounds : Lent → ℕ
rounds m = (free m + 509) / 510

-- a Withdraw by record 0: RAX 5, RCX = 4,096 x its calling page + 8, exit reason 0x403, and any other registers
unfoldable pub asking : Lent → Registers → Registers
asking m g =
    record { rax = 5; rcx = page_size * (startup m).calling + 8; rdx = g.rdx; r8 = g.r8; r9 = g.r9; reason = 0x403 }

-- so many rounds, each a store of the byte 1 to offset 0 of the startup's calling page by the startup's VMPL, and then the Withdraw
unfoldable pub withdrawals : ℕ → (ℕ → Registers) → Lent → List Step
withdrawals zero others m = []
withdrawals (suc n) others m =
    stores (startup m).vmpl (startup m).calling 0 (1 ∷ []) ∷ calls 0 (asking m (others n)) ∷ withdrawals n others m

-- all free pages of m came back: every step succeeded, so many were given back, none is free, those in use are as they were, and those that were free are
-- plain, valid and permitted to the startup's VMPL
pub record Recovered (all_well : Bool) (given_back : ℕ) (m after : Lent) : Type 0 where
  pub succeeded : all_well ≡ true
  pub counted : given_back ≡ free m
  pub none_free : free after ≡ 0
  pub in_use_kept : (p : ℕ) → owner (table_byte m p) ≡ pool_in_use → KeptPage p m after
  pub given : (p : ℕ) → owner (table_byte m p) ≡ pool_free
      → (owner (table_byte after p) ≡ plain) × (valid (table_byte after p) ≡ true) × (permitted (startup m).vmpl (table_byte after p) ≡ true)

-- ---- No call, and gone

unfoldable pub unreal : Outcome → Bool
unreal Handled = false
unreal NoCall = true
unreal Gone = false
unreal BadMachine = true

-- EFER bit 12 cleared in page p
unfoldable pub svme_cleared : ℕ → List (List ℕ) → List (List ℕ)
svme_cleared p pages = written p 0xD0 (little 8 (without_bit 12 (number 8 (get_or pages p []) 0xD0))) pages

-- a table with the byte of page p changed
unfoldable pub changed_byte : (ℕ → ℕ) → ℕ → List ℕ → List ℕ
changed_byte f p table = set table p (f (get_or table p 0))

-- the table without the vCPU: its VMSA page plain and granted to its VMPL, its calling page plain, its pool page free if it holds one
unfoldable pub left_table : Vcpu → List ℕ → List ℕ
left_table v table =
    table
    ▷ changed_byte (λ b. b ▷ own plain ▷ grant v.vmpl) v.vmsa
    ▷ changed_byte (own plain) v.calling
    ▷ (λ now. cond (eqb v.holding 1) (changed_byte (own pool_free) v.pool now) now)

-- gone: a Delete was asked for, of the caller's own VMSA. Registers and the caller's pending byte are as they were; memory changes only in EFER bit 12 of the
-- deleted VMSA and byte 1 of record 0's calling page; the table is without the vCPU, and of the sheet only its record changes, to zeros
pub record LeftByGone (caller : ℕ) (g : Registers) (m : Lent) (after : Posed Registers Machine) : Type 0 where
  pub asked : asks_for 3 g ≡ true
  pub named : page_of g.rcx ≡ (vcpu m caller).vmsa
  pub registers : after.registers ≡ g
  pub pending_byte : get_or (page_at after.machine.lent (vcpu m caller).calling) 0 0 ≡ pending caller m
  pub memory : after.machine.lent.memory
      ≡ written (startup m).calling 1 (cond (any_free after.machine.lent) 1 0 ∷ []) (svme_cleared (vcpu m caller).vmsa m.memory)
  pub table : after.machine.lent.table ≡ left_table (vcpu m caller) m.table
  pub sheet : after.machine.lent.sheet ≡ set m.sheet caller (zeros record_size)

-- ---- Refused

-- the code of a handled call is neither 0 nor 0x80000000
unfoldable pub refused : Registers → Bool
refused after = not (eqb after.rax 0) && not (eqb after.rax 0x80000000)

-- the last writes: byte 0 of the caller's calling page becomes 0, then byte 1 of record 0's the flag
unfoldable pub last_writes : ℕ → Lent → Lent
last_writes caller m = m ▷ write (vcpu m caller).calling 0 (0 ∷ []) ▷ (λ now. write (startup now).calling 1 (cond (any_free now) 1 0 ∷ []) now)

unfoldable pub number_of_list_call : ListCall → ℕ
number_of_list_call Pvalidate = 1
number_of_list_call Deposit = 4

-- list call `call` came to its entries: RAX asks for it, the pending byte is 1 and its head is accepted
unfoldable pub begun : ListCall → ℕ → Registers → Lent → Bool
begun call caller g m =
    asks_for (number_of_list_call call) g && eqb (pending caller m) 1 && head_accepted (vcpu m caller).vmpl g.rcx m

-- refused at an entry, one of the 32 from next on: the entries from next up to it were carried out, in a run with that budget, which left entries and the machine
-- `before`, with `entry` stored in the index. There the entry reads as a refusal, whose code the call has told
pub record AtEntry (call : ListCall) (caller : ℕ) (g : Registers) (m : Lent) (after : Posed Registers Machine) : Type 0 where
  pub entry : ℕ
  pub from : list_next g.rcx m ≤ entry
  pub within : entry < list_next g.rcx m + 32
  pub below : entry < list_count g.rcx m
  pub before : Lent
  pub earlier : run_within (entry - list_next g.rcx m) call caller g.rcx m ≡ record { answer = Ok Incomplete; after = before }
  pub code : Refusal
  pub unread : read_entry call (vcpu before caller).vmpl g.rcx (list_entry entry g.rcx m) before ≡ Err code
  pub told : after.registers.rax ≡ code_number (Err code)
  pub reached : after.machine.lent ≡ last_writes caller before

pub record LeftByRefusal (caller : ℕ) (g : Registers) (m : Lent) (after : Posed Registers Machine) : Type 0 where
  pub registers : after.registers ≡ with_rax after.registers.rax g
  pub sheet : after.machine.lent.sheet ≡ m.sheet
  -- a list that came to its entries was refused at one of them, and the earlier ones stand
  pub at_entry : (call : ListCall) → begun call caller g m ≡ true → AtEntry call caller g m after
  -- any other refusal leaves all but the last writes
  pub elsewhere : ((call : ListCall) → begun call caller g m ≡ false) → after.machine.lent ≡ last_writes caller m

-- ---- Validity

-- entry e covers page p: one page from bits 63:12 on, or 512
unfoldable pub covers : ℕ → ℕ → Bool
covers e p =
    let pages : ℕ = cond (eqb (bits 1 0 e) 0) 1 512 in
    leb (bits 63 12 e) p && ltb p (bits 63 12 e + pages)

unfoldable pub covers_valid : ℕ → Lent → Bool
covers_valid e m = exists (λ p. valid (table_byte m p)) (covered e)

-- the code of an entry with wish 1 and bit 3 clear that covers a valid page: 0x80001010 exactly when it is well formed and all covered pages are below N, plain,
-- not the list's, and valid, else PARAMETER, ADDRESS or 0x80001006 in 01's order
unfoldable pub second_code : ℕ → ℕ → Lent → Code
second_code rcx e m =
    let ill_formed : Bool =
    ltb 1 (bits 1 0 e) || not (eqb (bits 11 4 e) 0) || eqb (bits 1 0 e) 1 && not (multiple large (bits 63 12 e)) in
    let coverable : ℕ → Bool = λ p. below m p && owned_by plain m p && not (eqb p (page_of rcx)) in
    cond ill_formed (Err Parameter)
    (cond (not (every coverable (covered e))) (Err Address)
    (cond (not (every (λ p. valid (table_byte m p)) (covered e))) (Err SizeMismatch) (Err NoChange)))

-- no entry from one index to another covers page p
unfoldable pub Uncovered : ℕ → ℕ → ℕ → ℕ → Lent → Type 0
Uncovered from to p rcx m = (j : ℕ) → from ≤ j → j < to → covers (list_entry j rcx m) p ≡ false

-- why page p is not valid when the call comes to entry k: the last earlier entry that covers it has wish 0; or none covers it, and it was not valid on entry
pub data InvalidBy (k p rcx : ℕ) (m : Lent) : Type 0 where
  on_entry : valid (table_byte m p) ≡ false → Uncovered (list_next rcx m) k p rcx m → InvalidBy k p rcx m
  by_entry : (j : ℕ) → list_next rcx m ≤ j → j < k → bit 2 (list_entry j rcx m) ≡ false → covers (list_entry j rcx m) p ≡ true
      → Uncovered (suc j) k p rcx m → InvalidBy k p rcx m

-- an entry from next on and before entry k, with wish 0, that covers page p
pub record InvalidatedBefore (k p rcx : ℕ) (m : Lent) : Type 0 where
  pub entry : ℕ
  pub from : list_next rcx m ≤ entry
  pub earlier : entry < k
  pub wish_0 : bit 2 (list_entry entry rcx m) ≡ false
  pub covering : covers (list_entry entry rcx m) p ≡ true

-- ---- Confinement: from m to after, nothing above VMPL c is permitted that was not, and no vCPU of a VMPL below c is made, changed or deleted
pub record Confined (c : ℕ) (m after : Lent) : Type 0 where
  pub permissions : (p d : ℕ) → c < d → permitted d (table_byte after p) ≡ true → permitted d (table_byte m p) ≡ true
  pub made : (i : ℕ) → is_live (record_at after i) ≡ true → (vcpu after i).vmpl < c → record_at after i ≡ record_at m i
  pub deleted : (i : ℕ) → is_live (record_at m i) ≡ true → (vcpu m i).vmpl < c → record_at after i ≡ record_at m i
  -- the VMSA of a vCPU that is made has no VMPL below c, either; a page's number fits a record's four bytes where N does
  pub entered : N m ≤ most_pages → (i : ℕ) → is_live (record_at m i) ≡ false → is_live (record_at after i) ≡ true
      → c ≤ vmsa_vmpl (page_at after (vcpu after i).vmsa)

-- ---- What a host holds: bytes

-- what a call on bytes comes back with, as the machine that the bytes are
unfoldable pub bytes_back : ℕ → Posed Registers Buffers → Back
bytes_back caller s =
    let a = call_bytes caller s in
    record { answer = a.answer; after = record { registers = a.after.registers; machine = record { lent = parted a.after.machine } } }

-- and through the door, with the registers as bytes too
unfoldable pub door_back : ℕ → List ℕ → Buffers → Back
door_back caller registers b =
    let a = door_bytes caller (record { registers = registers; machine = b }) in
    record {
      answer = a.answer;
      after = record { registers = registers_of a.after.registers; machine = record { lent = parted a.after.machine } };
    }

-- an act of the host: a call by this record with these register bytes, of any length and content; a store of VMPL, page, offset and bytes; a mark of this
-- record, running or not
pub data Act : Type 0 where
  call_act : ℕ → List ℕ → Act
  store_act : ℕ → ℕ → ℕ → List ℕ → Act
  mark_act : ℕ → ℕ → Act

unfoldable pub act : Act → Buffers → Buffers
act (call_act caller registers) b = (door_bytes caller (record { registers = registers; machine = b })).after.machine
act (store_act c p offset bytes) b =
    record { memory = (store_bytes c p offset bytes b.table b.memory).after; table = b.table; sheet = b.sheet }
act (mark_act i value) b = record { memory = b.memory; table = b.table; sheet = (mark_bytes i value b.sheet).after }

unfoldable pub acts : List Act → Buffers → Buffers
acts [] b = b
acts (a ∷ more) b = acts more (act a b)

-- what an act deletes, gives back, takes in; and whether it succeeds
unfoldable pub act_deletes : ℕ → Act → Buffers → Bool
act_deletes p (call_act caller registers) b = deleted_by p (registers_of registers) (door_back caller registers b)
act_deletes p (store_act c q offset bytes) b = false
act_deletes p (mark_act i value) b = false

unfoldable pub act_gives_back : ℕ → Act → Buffers → Bool
act_gives_back p (call_act caller registers) b = given_back_by p (registers_of registers) (door_back caller registers b)
act_gives_back p (store_act c q offset bytes) b = false
act_gives_back p (mark_act i value) b = false

unfoldable pub act_taken_in : Act → Buffers → ℕ
act_taken_in (call_act caller registers) b = taken_by (registers_of registers) (parted b) (door_back caller registers b)
act_taken_in (store_act c p offset bytes) b = 0
act_taken_in (mark_act i value) b = 0

unfoldable pub act_given_back : Act → Buffers → ℕ
act_given_back (call_act caller registers) b = given_by (registers_of registers) (door_back caller registers b)
act_given_back (store_act c p offset bytes) b = 0
act_given_back (mark_act i value) b = 0

unfoldable pub over_acts : (Act → Buffers → ℕ) → List Act → Buffers → ℕ
over_acts counted [] b = 0
over_acts counted (a ∷ more) b = counted a b + over_acts counted more (act a b)

unfoldable pub act_succeeds : Act → Buffers → Bool
act_succeeds (call_act caller registers) b = succeeded_by (door_back caller registers b)
act_succeeds (store_act c p offset bytes) b = eqb (verdict_number (store_bytes c p offset bytes b.table b.memory).answer) 0
act_succeeds (mark_act i value) b = eqb (verdict_number (mark_bytes i value b.sheet).answer) 0

unfoldable pub all_acts_succeed : List Act → Buffers → Bool
all_acts_succeed [] b = true
all_acts_succeed (a ∷ more) b = act_succeeds a b && all_acts_succeed more (act a b)

-- the rounds of `withdrawals`, as acts
unfoldable pub withdrawal_acts : ℕ → (ℕ → Registers) → Lent → List Act
withdrawal_acts zero others m = []
withdrawal_acts (suc n) others m =
    store_act (startup m).vmpl (startup m).calling 0 (1 ∷ [])
    ∷ call_act 0 (register_bytes (asking m (others n)))
    ∷ withdrawal_acts n others m
