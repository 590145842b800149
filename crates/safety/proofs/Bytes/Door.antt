-- At the byte door: on well-sized bytes a call comes back like the call on the machine that they are, with the registers that the bytes are. All but RAX of a
-- handled call may be cut to 64 bits, and no statement reads more. Register bytes of a wrong length ask for nothing: a call by no record does as much.
use mathlib.Core.Path.{◌≡◌, refl, ◌∙◌, ap}
use mathlib.Core.Bool.{true, false, cond, ◌&&◌}
use mathlib.Core.List.{List, []}
use Prim.Native.Nat.{ℕ, ◌+◌, ◌*◌, ◌^◌, ◌<◌}
use native.Mathlib.Omega.{arith}
use lib.Dec.{eqb}
use lib.ListN.{length}
use Rattle.std.specs.Prelude.{Ok, Err}
use Rattle.rules.specs.declared.Registers.{Registers}
use Rattle.rules.specs.declared.Outcome.{Outcome}
use Rattle.rules.specs.declared.Outcome.TheVariants.{Handled, NoCall, Gone, BadMachine}
use Rattle.rules.specs.declared.Progress.TheVariants.{Success, Incomplete}
use Rattle.rules.specs.declared.Refusal.TheVariants.{OneMorePage, UnknownProtocol, UnknownCall, Address, BadPending, Parameter, Request, InUse, SizeMismatch, NoChange}
use Rattle.rules.specs.Words.{page_size, records, registers_size, little, number}
use Rattle.rules.specs.Answers.{Code, Answered, refuse, outcome_number, code_number}
use Rattle.rules.specs.Machine.{Lent, Machine, is_live, record_at, startup}
use Rattle.rules.specs.Call.{Posed, with_rax, bad_sheet, bad_machine, no_call, finish, call}
use Rattle.rules.specs.Flat.{Buffers, parted, well_sized, registers_of, register_bytes, door_bytes}
use Rattle.rules.specs.Runs.{called, handled_as, taken_by, given_by}
use Rattle.laws.proofs.Ranges.{by_test}
use Rattle.laws.proofs.Numbers.{number_little_fits}
use Rattle.safety.specs.Terms.{Back, done_well, deleted_by, given_back_by, succeeded_by, asking, bytes_back, door_back}
use Rattle.safety.specs.Statements.{CallsOnBytes}
use Rattle.safety.proofs.Branches.{never}
use Rattle.safety.proofs.Bytes.Calls.{calls_on_bytes, unsized}

-- ---- registers as bytes

-- as they are read back: each cut to 64 bits
abbrev pub cut : Registers → Registers
cut g = registers_of (register_bytes g)

rax_back : (g : Registers) → g.rax < 256 ^ 8 → (cut g).rax ≡ g.rax
unfolding registers_of register_bytes little number
rax_back g h = number_little_fits 8 g.rax [] h

-- 48 bytes
pub length_registers : (g : Registers) → eqb (length (register_bytes g)) registers_size ≡ true
unfolding register_bytes little registers_size
length_registers g = refl

-- what a Withdraw by the startup asks with is read back, the other registers aside
pub asking_back : (m : Lent) (g : Registers) → page_size * (startup m).calling + 8 < 256 ^ 8 → cut (asking m g) ≡ asking m (cut g)
unfolding asking registers_of register_bytes little number
asking_back m g h =
    λ i. record {
      rax = 5;
      rcx = number_little_fits 8 (page_size * (startup m).calling + 8) [] h i;
      rdx = (cut g).rdx;
      r8 = (cut g).r8;
      r9 = (cut g).r9;
      reason = 0x403;
    }

-- ---- the code of a handled call

pub code_fits : (c : Code) → code_number c < 256 ^ 8
unfolding code_number
code_fits (Ok Success) = omega arith
code_fits (Err OneMorePage) = omega arith
code_fits (Ok Incomplete) = omega arith
code_fits (Err UnknownProtocol) = omega arith
code_fits (Err UnknownCall) = omega arith
code_fits (Err Address) = omega arith
code_fits (Err BadPending) = omega arith
code_fits (Err Parameter) = omega arith
code_fits (Err Request) = omega arith
code_fits (Err InUse) = omega arith
code_fits (Err SizeMismatch) = omega arith
code_fits (Err NoChange) = omega arith

finish_fits : (caller : ℕ) (g : Registers) (a : Answered Code (Posed Registers Machine)) → (finish caller g a).answer ≡ Handled
    → (finish caller g a).after.registers.rax < 256 ^ 8
unfolding finish with_rax outcome_number
finish_fits caller g a h =
    by_test (is_live (record_at a.after.machine.lent caller)) (λ t. rw t (code_fits a.answer)) (λ t. never Gone Handled refl (rw t at h))

handled_fits : (caller : ℕ) (g : Registers) (m : Machine) → (called caller g m).answer ≡ Handled → (called caller g m).after.registers.rax < 256 ^ 8
unfolding called call refuse outcome_number
handled_fits caller g m h =
    by_test (bad_machine caller m.lent) (λ t. never BadMachine Handled refl (rw t at h))
    (λ t. by_test (no_call caller g m.lent) (λ u. never NoCall Handled refl (rw (t, u) at h))
    (λ u. rw (t, u) (finish_fits caller g _ (rw (t, u) at h))))

-- ---- what two calls came back with is alike in all that the statements read

pub record Alike (a b : Back) : Type 0 where
  pub outcome : a.answer ≡ b.answer
  pub lent : a.after.machine.lent ≡ b.after.machine.lent
  pub code : b.answer ≡ Handled → a.after.registers.rax ≡ b.after.registers.rax

well_by_rax : (o : Outcome) (g h : Registers) → (o ≡ Handled → g.rax ≡ h.rax) → done_well o g ≡ done_well o h
unfolding done_well
well_by_rax Handled g h e = rw (e refl)
well_by_rax NoCall g h e = refl
well_by_rax Gone g h e = refl
well_by_rax BadMachine g h e = refl

zero_by_rax : (o : Outcome) (g h : Registers) → (o ≡ Handled → g.rax ≡ h.rax)
    → (eqb (outcome_number o) 0 && eqb g.rax 0) ≡ (eqb (outcome_number o) 0 && eqb h.rax 0)
unfolding outcome_number
zero_by_rax Handled g h e = rw (e refl)
zero_by_rax NoCall g h e = refl
zero_by_rax Gone g h e = refl
zero_by_rax BadMachine g h e = refl

handled_by_rax : (n : ℕ) (r : Registers) (o : Outcome) (g h : Registers) → (o ≡ Handled → g.rax ≡ h.rax)
    → (handled_as n r o && eqb g.rax 0) ≡ (handled_as n r o && eqb h.rax 0)
unfolding handled_as outcome_number
handled_by_rax n r Handled g h e = rw (e refl)
handled_by_rax n r NoCall g h e = refl
handled_by_rax n r Gone g h e = refl
handled_by_rax n r BadMachine g h e = refl

pub succeeded_alike : (a b : Back) → Alike a b → succeeded_by a ≡ succeeded_by b
unfolding succeeded_by
succeeded_alike a b like = rw like.outcome (zero_by_rax b.answer a.after.registers b.after.registers like.code)

module _ (g : Registers) (a b : Back) (like : Alike a b) where
  done_alike : done_well a.answer a.after.registers ≡ done_well b.answer b.after.registers
  done_alike = rw like.outcome (well_by_rax b.answer _ _ like.code)

  pub deleted_alike : (p : ℕ) → deleted_by p g a ≡ deleted_by p g b
  unfolding deleted_by
  deleted_alike p = rw done_alike

  pub given_back_alike : (p : ℕ) → given_back_by p g a ≡ given_back_by p g b
  unfolding given_back_by
  given_back_alike p = rw (succeeded_alike a b like, like.lent)

  pub given_alike : given_by g a ≡ given_by g b
  unfolding given_by
  given_alike = rw (like.outcome, like.lent, handled_by_rax 5 g b.answer a.after.registers b.after.registers like.code)

  pub taken_alike : (m : Lent) → taken_by g m a ≡ taken_by g m b
  unfolding taken_by
  taken_alike m = rw (like.outcome, like.lent)

-- ---- the door

-- who asks: the caller with 48 register bytes, and else no record
unfoldable pub asks_as : ℕ → List ℕ → ℕ
asks_as caller registers = cond (eqb (length registers) registers_size) caller records

-- no record gets outcome 3
pub called_by_none : (g : Registers) (m : Machine) → called records g m ≡ unsized g m.lent
unfolding called call refuse bad_machine bad_sheet records
called_by_none g m = refl

module _ (caller : ℕ) (registers : List ℕ) (b : Buffers) (w : well_sized b ≡ true) where
  abbrev told : Back
  told = called caller (registers_of registers) (record { lent = parted b })

  told_back : bytes_back caller (record { registers = registers_of registers; machine = b }) ≡ told
  unfolding CallsOnBytes
  told_back = calls_on_bytes caller (record { registers = registers_of registers; machine = b }) w

  asked_alike : eqb (length registers) registers_size ≡ true → Alike (door_back caller registers b) told
  unfolding door_back door_bytes refuse bytes_back
  asked_alike t =
      rw t
      (record {
        outcome = ap (λ a. a.answer) told_back;
        lent = ap (λ a. a.after.machine.lent) told_back;
        code = λ h. ap (λ a. (cut a.after.registers).rax) told_back ∙ rax_back told.after.registers (handled_fits caller _ _ h);
      })

  unasked_alike : eqb (length registers) registers_size ≡ false
      → Alike (door_back caller registers b) (unsized (registers_of registers) (parted b))
  unfolding door_back door_bytes refuse
  unasked_alike t = rw t (record { outcome = refl; lent = refl; code = λ h. refl })

  -- what comes back at the door is like what the machine comes back with
  pub door_alike : Alike (door_back caller registers b) (called (asks_as caller registers) (registers_of registers) (record { lent = parted b }))
  unfolding asks_as
  door_alike =
      by_test (eqb (length registers) registers_size) (λ t. rw t (asked_alike t)) (λ t. rw (t, called_by_none) (unasked_alike t))
