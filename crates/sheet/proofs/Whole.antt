-- A record of the sheet that is lent is the record of the machine whose sheet it is.
-- Assumes nothing.
use mathlib.Core.Path.{◌≡◌, refl}
use Prim.Native.Nat.{ℕ}
use Rattle.rules.specs.Machine.{vcpu, record_at}
use Rattle.rules.specs.Flat.{Buffers, parted}
use Rattle.sheet.specs.Row.{vcpu_in}

pub vcpu_whole : (b : Buffers) (i : ℕ) → vcpu (parted b) i ≡ vcpu_in b.sheet i
unfolding vcpu record_at parted
vcpu_whole b i = refl
