-- "What a call comes back with": the four outcomes in their order, the tests of RAX, the last writes.
use Rattle.std.specs.Prelude.{ℕ, Bool, cond, not, ◌||◌, List, [], ◌∷◌, leb, eqb, get_or, Ok, Err}
use Rattle.rules.specs.Words.{records, entries_a_call, bits, exists}
use Rattle.rules.specs.Answers.{Registers, Outcome, Handled, NoCall, Gone, BadMachine, Code, Success, UnknownProtocol, UnknownCall, BadPending}
use Rattle.rules.specs.Answers.{Pvalidate, Deposit, code_number, Answered, refuse}
use Rattle.rules.specs.Machine.{Lent, Machine, with_lent, ◌▷◌, N, page_at, write, is_live, record_at, vcpu, startup}
use Rattle.rules.specs.Sound.{bad_record}
use Rattle.rules.specs.Lists.{list_call}
use Rattle.rules.specs.Calls.{remap, any_free, create, delete, withdraw, query, vtom}

-- what a call is lent: the registers in the form R, and the machine in the form M
pub record Posed (R M : Type 0) : Type 0 where
  pub registers : R
  pub machine : M

unfoldable pub with_rax : ℕ → Registers → Registers
with_rax rax g = record { rax = rax; rcx = g.rcx; rdx = g.rdx; r8 = g.r8; r9 = g.r9; reason = g.reason }

unfoldable pub with_rcx : ℕ → Registers → Registers
with_rcx rcx g = record { rax = g.rax; rcx = rcx; rdx = g.rdx; r8 = g.r8; r9 = g.r9; reason = g.reason }

-- "3 bad machine": "caller above 15 or not live; record 0 not live", and what a record may not hold; the sizes are tested in Flat
unfoldable pub bad_sheet : ℕ → ℕ → List (List ℕ) → Bool
bad_sheet n caller sheet =
    let live : ℕ → Bool = λ i. is_live (get_or sheet i []) in
    leb records caller || not (live caller) || not (live 0) || exists (bad_record n) sheet

unfoldable pub bad_machine : ℕ → Lent → Bool
bad_machine caller m = bad_sheet (N m) caller m.sheet

-- "The pending byte is byte 0 of the caller's calling page"
unfoldable pub pending : ℕ → Lent → ℕ
pending caller m = get_or (page_at m (vcpu m caller).calling) 0 0

-- "1 no call": "pending byte 0, or exit reason not 0x403"
unfoldable pub no_call : ℕ → Registers → Lent → Bool
no_call caller g m = eqb (pending caller m) 0 || not (eqb g.reason 0x403)

-- "protocol (RAX bits 63:32, only 0), then call (bits 31:0, 0 to 7)"
unfoldable pub protocol : Registers → ℕ
protocol g = bits 63 32 g.rax

unfoldable pub call_number : Registers → ℕ
call_number g = bits 31 0 g.rax

-- a call that changes the lent buffers, or RCX, alone
unfoldable pub on_lent : Answered Code Lent → Posed Registers Machine → Answered Code (Posed Registers Machine)
on_lent a s = record { answer = a.answer; after = record { registers = s.registers; machine = with_lent a.after s.machine } }

unfoldable pub on_rcx : Answered Code ℕ → Posed Registers Machine → Answered Code (Posed Registers Machine)
on_rcx a s = record { answer = a.answer; after = record { registers = with_rcx a.after s.registers; machine = s.machine } }

-- "then call (bits 31:0, 0 to 7)": all before the last writes
unfoldable pub dispatch : ℕ → Posed Registers Machine → Answered Code (Posed Registers Machine)
dispatch caller s =
    let g : Registers = s.registers in
    let m : Lent = s.machine.lent in
    let is : ℕ → Bool = eqb (call_number g) in
    cond (is 0) (on_lent (remap caller g.rcx m) s)
    (cond (is 1) (on_lent (list_call entries_a_call Pvalidate caller g.rcx m) s)
    (cond (is 2) (on_lent (create caller g.rcx g.rdx g.r8 m) s)
    (cond (is 3) (on_lent (delete caller g.rcx m) s)
    (cond (is 4) (on_lent (list_call entries_a_call Deposit caller g.rcx m) s)
    (cond (is 5) (on_lent (withdraw caller g.rcx m) s)
    (cond (is 6) (on_rcx (record { answer = Ok Success; after = query g.rcx }) s)
    (cond (is 7) (on_rcx (vtom g.rcx) s)
    (record { answer = Err UnknownCall; after = s }))))))))

-- "First 0x80000004, then protocol .., then call .."
unfoldable pub handle : ℕ → Posed Registers Machine → Answered Code (Posed Registers Machine)
handle caller s =
    refuse s (leb 2 (pending caller s.machine.lent)) (Err BadPending)
    (refuse s (not (eqb (protocol s.registers) 0)) (Err UnknownProtocol)
    (dispatch caller s))

-- "pending is 0", in the calling page that the record now names
unfoldable pub clear_pending : ℕ → Lent → Lent
clear_pending caller m = write (vcpu m caller).calling 0 (0 ∷ []) m

-- "byte 1 of the startup calling page to 1 if a pool page is free, else 0 (house)"
unfoldable pub set_flag : Lent → Lent
set_flag m = write (startup m).calling 1 (cond (any_free m) 1 0 ∷ []) m

-- "0 handled": "RAX is the code, zero-extended; pending is 0". "2 gone": "the caller deleted itself", so that its record, live on entry, is
-- live no more: "registers; its pending byte is not cleared". "Last of all" the flag
unfoldable pub finish : ℕ → Registers → Answered Code (Posed Registers Machine) → Answered Outcome (Posed Registers Machine)
finish caller before a =
    let m : Lent = a.after.machine.lent in
    let g : Registers = with_rax (code_number a.answer) a.after.registers in
    cond (is_live (record_at m caller))
    (record { answer = Handled; after = record { registers = g; machine = with_lent (m ▷ clear_pending caller ▷ set_flag) a.after.machine } })
    (record { answer = Gone; after = record { registers = before; machine = with_lent (set_flag m) a.after.machine } })

-- the outcomes, "Checked in that order"; 3 and 1 leave "everything"
unfoldable pub call : ℕ → Posed Registers Machine → Answered Outcome (Posed Registers Machine)
call caller s =
    refuse s (bad_machine caller s.machine.lent) BadMachine
    (refuse s (no_call caller s.registers s.machine.lent) NoCall
    (finish caller s.registers (handle caller s)))
