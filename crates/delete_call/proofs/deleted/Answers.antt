-- The effects in order, each on what the one before it left.
use mathlib.Core.Path.{◌∙◌, ap}
use mathlib.Core.List.{List}
use Prim.Native.Nat.{ℕ}
use native.Mathlib.Omega.{arith}
use Rattle.rules.specs.Machine.{amend, vcpu, holds}
use Rattle.rules.specs.Calls.{deleted}
use Rattle.laws.proofs.Change.{change_twice}
use Rattle.machine.specs.Held.{lent_of}
use Rattle.delete_call.proofs.Blank.{blank}
use Rattle.delete_call.proofs.deleted.Goals as goal

pub returns-clause-done : goal.returns-clause-done
unfolding deleted vcpu holds
returns-clause-done c =
    c.put_vcpu.ensures.done
    ∙ ap (λ (r : List ℕ). amend (λ old. r) c.args.i (lent_of c.free_pool.new.machine)) (blank _ (omega arith))
    ∙ rw (c.free_pool.ensures.done, c.set_owner-2.ensures.done, c.grant.ensures.done, c.set_owner.ensures.done, change_twice, c.clear_svme.ensures.done, c.vcpu-v.ensures)
