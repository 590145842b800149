-- Statement 7, no call and bad machine: everything is as it was, with the registers as a record, and as bytes.
use mathlib.Core.Path.{◌≡◌, sym, ◌∙◌}
use mathlib.Core.Bool.{false, true≢false}
use mathlib.Core.List.{List, ◌++◌}
use Prim.Native.Nat.{ℕ, ◌+◌, ◌<◌, ◌≤◌}
use native.Mathlib.Omega.{arith}
use lib.Dec.{eqb}
use lib.ListN.{length, get_or, take, drop}
use lib.Seq.{take-add, take_all}
use borrow.Author.Tests.{eqb-true}
use Rattle.rules.specs.declared.Registers.{Registers}
use Rattle.rules.specs.Answers.{Code, Answered, refuse}
use Rattle.rules.specs.Words.{registers_size, little, number}
use Rattle.rules.specs.Machine.{Lent, Machine, is_live, record_at}
use Rattle.rules.specs.Call.{Posed, bad_machine, no_call, handle, finish, call}
use Rattle.rules.specs.Flat.{Buffers, parted, well_sized, call_bytes, registers_of, register_bytes, door_bytes}
use Rattle.laws.proofs.Ranges.{by_test}
use Rattle.laws.proofs.Numbers.{little_number}
use Rattle.laws.proofs.FlatLaunch.{joined_parted}
use Rattle.safety.specs.Terms.{unreal}
use Rattle.safety.specs.Statements.{UnrealChangesNothing, UnrealChangesNoByte}

-- what comes to its end is handled, or gone
finish_real : (caller : ℕ) (before : Registers) (a : Answered Code (Posed Registers Machine)) → unreal (finish caller before a).answer ≡ false
unfolding finish unreal
finish_real caller before a = by_test (is_live (record_at a.after.machine.lent caller)) (λ t. rw t) (λ t. rw t)

-- no call and bad machine change nothing
pub unreal_changes_nothing : UnrealChangesNothing
unfolding UnrealChangesNothing call_bytes call refuse
unreal_changes_nothing caller s h =
    let m : Lent = parted s.machine in
    let posed : Posed Registers Machine = record { registers = s.registers; machine = record { lent = m } } in
    by_test (well_sized s.machine)
    (λ t. by_test (bad_machine caller m)
    (λ u. rw (t, u, joined_parted s.machine t))
    (λ u. by_test (no_call caller s.registers m)
    (λ v. rw (t, u, v, joined_parted s.machine t))
    (λ v. absurd (true≢false (sym (rw (t, u, v) at h) ∙ finish_real caller s.registers (handle caller posed))))))
    (λ t. rw t)

-- registers that are read from 48 bytes are written as those bytes
module _ (l : List ℕ) (bytes : (k : ℕ) → get_or l k 0 < 256) (sized : length l ≡ 48) where
  eight : (at : ℕ) → at + 8 ≤ 48 → little 8 (number 8 l at) ≡ take 8 (drop at l)
  eight at h = little_number 8 l at (λ k b. bytes (at + k)) (omega arith)

  more : (xs : List ℕ) (at : ℕ) → at + 8 ≤ 48 → xs ≡ take at l → xs ++ little 8 (number 8 l at) ≡ take (at + 8) l
  more xs at h e = rw (e, eight at h) (sym (take-add at 8 l))

  -- all six
  pub registers_back : register_bytes (registers_of l) ≡ l
  unfolding register_bytes registers_of
  registers_back =
      more _ 40 (omega arith) (more _ 32 (omega arith) (more _ 24 (omega arith) (more _ 16 (omega arith) (more _ 8 (omega arith) (eight 0 (omega arith))))))
      ∙ take_all 48 l (omega arith)

-- and no byte at the door
pub unreal_changes_no_byte : UnrealChangesNoByte
unfolding UnrealChangesNoByte UnrealChangesNothing door_bytes refuse registers_size
unreal_changes_no_byte caller s bytes h =
    let posed : Posed Registers Buffers = record { registers = registers_of s.registers; machine = s.machine } in
    by_test (eqb (length s.registers) 48)
    (λ t. rw (t, unreal_changes_nothing caller posed (rw t at h), registers_back s.registers bytes (eqb-true (length s.registers) 48 t)))
    (λ t. rw t)
