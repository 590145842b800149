-- What holds of every call on machines holds on bytes, and at the door: registers of 48 bytes fit 64 bits each, a call leaves them so, and so they are read back as
-- they are.
use mathlib.Core.Path.{◌≡◌}
use mathlib.Core.Bool.{true, false}
use mathlib.Core.List.{List, []}
use Prim.Native.Nat.{ℕ, ◌+◌, ◌^◌, ◌<◌}
use native.Mathlib.Omega.{arith}
use lib.Dec.{eqb}
use lib.ListN.{length, get_or}
use Rattle.rules.specs.declared.Registers.{Registers}
use Rattle.rules.specs.Words.{registers_size, little, number}
use Rattle.rules.specs.Answers.{Code, Answered, refuse}
use Rattle.rules.specs.Machine.{Lent, Machine, is_live, record_at}
use Rattle.rules.specs.Calls.{query, configure, vtom}
use Rattle.rules.specs.Call.{Posed, with_rax, with_rcx, on_lent, on_rcx, handle, finish, call}
use Rattle.rules.specs.Flat.{Buffers, parted, registers_of, register_bytes, call_bytes, door_bytes}
use Rattle.rules.specs.Runs.{called}
use Rattle.laws.proofs.Ranges.{by_test}
use Rattle.laws.proofs.Numbers.{number_below, number_little_fits}
use Rattle.safety.specs.Terms.{Back, bytes_back, door_back}
use Rattle.safety.specs.Statements.{OnMachines, OnBytes, OnDoor, OfEveryCall}
use Rattle.safety.proofs.Branches.{on_test, past, on_handle}
use Rattle.safety.proofs.Bytes.Calls.{unsized, on_bytes}
use Rattle.safety.proofs.Bytes.Door.{cut, code_fits}

-- each register fits its eight bytes
record Fits (g : Registers) : Type 0 where
  rax : g.rax < 256 ^ 8
  rcx : g.rcx < 256 ^ 8
  rdx : g.rdx < 256 ^ 8
  r8 : g.r8 < 256 ^ 8
  r9 : g.r9 < 256 ^ 8
  reason : g.reason < 256 ^ 8

-- and is then read back
cut_same : (g : Registers) → Fits g → cut g ≡ g
unfolding registers_of register_bytes little number
cut_same g h =
    λ i. record {
      rax = number_little_fits 8 g.rax [] h.rax i;
      rcx = number_little_fits 8 g.rcx [] h.rcx i;
      rdx = number_little_fits 8 g.rdx [] h.rdx i;
      r8 = number_little_fits 8 g.r8 [] h.r8 i;
      r9 = number_little_fits 8 g.r9 [] h.r9 i;
      reason = number_little_fits 8 g.reason [] h.reason i;
    }

-- registers that are read from bytes fit
read_fits : (l : List ℕ) → ((k : ℕ) → get_or l k 0 < 256) → Fits (registers_of l)
unfolding registers_of
read_fits l bytes =
    let at : (n : ℕ) → number 8 l n < 256 ^ 8 = λ n. number_below 8 l n (λ k h. bytes (n + k)) in
    record { rax = at 0; rcx = at 8; rdx = at 16; r8 = at 24; r9 = at 32; reason = at 40 }

-- ---- a call leaves them so

query_fits : (rcx : ℕ) → query rcx < 256 ^ 8
unfolding query
query_fits rcx = on_test (λ n. n < 256 ^ 8) (eqb rcx 1) _ _ (λ t. omega arith) (λ t. omega arith)

vtom_fits : (rcx : ℕ) → rcx < 256 ^ 8 → (vtom rcx).after < 256 ^ 8
unfolding vtom configure
vtom_fits rcx h =
    let Small : ℕ → Type 0 = λ n. n < 256 ^ 8 in
    past Small rcx _ _ _ h
    (λ t. on_test (λ (a : Answered Code ℕ). Small a.after) (eqb rcx 1) _ _ (λ u. omega arith) (λ u. past Small rcx _ _ _ h (λ v. h)))

rcx_fits : (rcx : ℕ) (g : Registers) → rcx < 256 ^ 8 → Fits g → Fits (with_rcx rcx g)
unfolding with_rcx
rcx_fits rcx g h f = record { rax = f.rax; rcx = h; rdx = f.rdx; r8 = f.r8; r9 = f.r9; reason = f.reason }

rax_fits : (rax : ℕ) (g : Registers) → rax < 256 ^ 8 → Fits g → Fits (with_rax rax g)
unfolding with_rax
rax_fits rax g h f = record { rax = h; rcx = f.rcx; rdx = f.rdx; r8 = f.r8; r9 = f.r9; reason = f.reason }

module _ (caller : ℕ) (g : Registers) (m : Machine) (f : Fits g) where
  handle_fits : Fits (handle caller (record { registers = g; machine = m })).after.registers
  unfolding on_lent on_rcx
  handle_fits =
      on_handle caller (record { registers = g; machine = m }) (λ a. Fits a.after.registers)
      (record {
        bad_pending = f;
        unknown_protocol = λ e. f;
        remaps = λ e. f;
        validates = λ e. f;
        creates = λ e. f;
        deletes = λ e. f;
        deposits = λ e. f;
        withdraws = λ e. f;
        queries = λ e. rcx_fits _ g (query_fits g.rcx) f;
        configures = λ e. rcx_fits _ g (vtom_fits g.rcx f.rcx) f;
        unknown_call = λ e. f;
      })

  finish_fits : (a : Answered Code (Posed Registers Machine)) → Fits a.after.registers → Fits (finish caller g a).after.registers
  unfolding finish
  finish_fits a h =
      on_test (λ (b : Back). Fits b.after.registers) (is_live (record_at a.after.machine.lent caller)) _ _
      (λ t. rax_fits _ _ (code_fits a.answer) h) (λ t. f)

  called_fits : Fits (called caller g m).after.registers
  unfolding called call
  called_fits =
      let P : Posed Registers Machine → Type 0 = λ s. Fits s.registers in
      past P (record { registers = g; machine = m }) _ _ _ f (λ t. past P (record { registers = g; machine = m }) _ _ _ f (λ u. finish_fits _ handle_fits))

-- so on bytes
bytes_fit : (caller : ℕ) (s : Posed Registers Buffers) → Fits s.registers → Fits (call_bytes caller s).after.registers
unfolding call_bytes called
bytes_fit caller s f =
    past (λ (t : Posed Registers Buffers). Fits t.registers) s _ _ _ f
    (λ t. called_fits caller s.registers (record { lent = parted s.machine }) f)

-- ---- at the door

-- 48 register bytes come back as the registers that they are
door_told : (caller : ℕ) (registers : List ℕ) (b : Buffers) → ((k : ℕ) → get_or registers k 0 < 256) → eqb (length registers) registers_size ≡ true
    → door_back caller registers b ≡ bytes_back caller (record { registers = registers_of registers; machine = b })
unfolding door_back door_bytes bytes_back refuse
door_told caller registers b bytes t =
    rw (t, cut_same _ (bytes_fit caller (record { registers = registers_of registers; machine = b }) (read_fits registers bytes)))

-- other lengths get outcome 3
door_unsized : (caller : ℕ) (registers : List ℕ) (b : Buffers) → eqb (length registers) registers_size ≡ false
    → door_back caller registers b ≡ unsized (registers_of registers) (parted b)
unfolding door_back door_bytes refuse
door_unsized caller registers b t = rw t

module _ (law : ℕ → Registers → Lent → Back → Type 0) (allows : (caller : ℕ) (g : Registers) (m : Lent) → law caller g m (unsized g m)) where
  on_door : OnBytes law → OnDoor law
  unfolding OnBytes OnDoor
  on_door holds caller registers b bytes =
      by_test (eqb (length registers) registers_size)
      (λ t. rw (door_told caller registers b bytes t) (holds caller (record { registers = registers_of registers; machine = b })))
      (λ t. rw (door_unsized caller registers b t) (allows caller (registers_of registers) (parted b)))

  -- a law of every call on machines is one of every call, if it allows for outcome 3 with everything as it was
  pub of_every_call : OnMachines law → OfEveryCall law
  unfolding OfEveryCall
  of_every_call holds = let bytes = on_bytes law allows holds in (holds, bytes, on_door bytes)
