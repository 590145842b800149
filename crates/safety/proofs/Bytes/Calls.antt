-- On bytes of right size, sound or not, a call on bytes is the call on the machine that they are; so what holds of every call on machines holds on bytes.
use mathlib.Core.Path.{◌≡◌}
use mathlib.Core.Bool.{true, false}
use Prim.Native.Nat.{ℕ}
use Rattle.rules.specs.declared.Registers.{Registers}
use Rattle.rules.specs.declared.Outcome.TheVariants.{BadMachine}
use Rattle.rules.specs.Answers.{refuse}
use Rattle.rules.specs.Machine.{Lent, N}
use Rattle.rules.specs.Call.{Posed}
use Rattle.rules.specs.Flat.{Buffers, parted, joined, well_sized, call_bytes}
use Rattle.rules.specs.Runs.{called}
use Rattle.laws.proofs.Ranges.{by_test}
use Rattle.safety.specs.Terms.{Back, bytes_back}
use Rattle.safety.specs.Statements.{OnMachines, OnBytes, SizesKept, CallsOnBytes}
use Rattle.safety.proofs.Sound.Sizes.{Sized}
use Rattle.safety.proofs.Bytes.Parted.{parted_joined, parted_sized}
use Rattle.safety.proofs.Bytes.Sizes.{sizes_kept}

-- the sizes that a call keeps
called_sized : (caller : ℕ) (s : Posed Registers Buffers) → well_sized s.machine ≡ true
    → Sized (N (parted s.machine)) (called caller s.registers (record { lent = parted s.machine })).after.machine.lent
unfolding SizesKept
called_sized caller s w =
    let now = parted_sized s.machine w in
    let after = sizes_kept caller s.registers (record { lent = parted s.machine }) now.tables now.memories in
    record { tables = after.0; memories = after.1; number = after.2 }

-- a call on bytes of right size comes back with the machine's, joined and parted
sized_back : (caller : ℕ) (s : Posed Registers Buffers) → well_sized s.machine ≡ true →
    let a = called caller s.registers (record { lent = parted s.machine }) in
    bytes_back caller s
    ≡ record {
      answer = a.answer;
      after = record { registers = a.after.registers; machine = record { lent = parted (joined a.after.machine.lent) } };
    }
unfolding bytes_back call_bytes called refuse
sized_back caller s w = rw w

-- which is that machine
pub calls_on_bytes : CallsOnBytes
unfolding CallsOnBytes
calls_on_bytes caller s w = rw (sized_back caller s w, parted_joined _ (called_sized caller s w))

-- a call that is refused for its sizes
abbrev pub unsized : Registers → Lent → Back
unsized g m = record { answer = BadMachine; after = record { registers = g; machine = record { lent = m } } }

unsized_back : (caller : ℕ) (s : Posed Registers Buffers) → well_sized s.machine ≡ false → bytes_back caller s ≡ unsized s.registers (parted s.machine)
unfolding bytes_back call_bytes refuse
unsized_back caller s w = rw w

-- a law of every call on machines is one of every call on bytes, if it allows for outcome 3 with everything as it was
pub on_bytes : (law : ℕ → Registers → Lent → Back → Type 0) → ((caller : ℕ) (g : Registers) (m : Lent) → law caller g m (unsized g m))
    → OnMachines law → OnBytes law
unfolding OnMachines OnBytes CallsOnBytes
on_bytes law allows holds caller s =
    by_test (well_sized s.machine)
    (λ w. rw (calls_on_bytes caller s w) (holds caller s.registers (record { lent = parted s.machine })))
    (λ w. rw (unsized_back caller s w) (allows caller s.registers (parted s.machine)))
