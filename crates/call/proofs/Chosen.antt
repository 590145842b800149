-- What RAX names: the protocol and the call.
use mathlib.Core.Path.{◌≡◌}
use Prim.Native.Nat.{ℕ, ◌/◌, ◌%◌, ◌<◌}
use native.Mathlib.Nat.{div-one}
use native.Mathlib.Omega.{arith}
use Rattle.rules.specs.declared.Registers.{Registers}
use Rattle.rules.specs.Words.{bits}
use Rattle.rules.specs.Call.{protocol, call_number}

pub named : (g : Registers) (k : ℕ) → g.rax % 4294967296 ≡ k → call_number g ≡ k
unfolding call_number bits
named g k e = rw (div-one, e)

pub protocol_is : (g : Registers) → g.rax < 18446744073709551616 → protocol g ≡ g.rax / 4294967296
unfolding protocol bits
protocol_is g h = omega (arith, h)
