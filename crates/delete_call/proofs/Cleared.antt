-- What Delete does to a machine, part by part.
-- Assumes nothing.
use mathlib.Core.Path.{◌≡◌}
use mathlib.Core.Bool.{cond}
use mathlib.Core.List.{List, []}
use Prim.Native.Nat.{ℕ}
use lib.ListN.{get_or, set}
use Rattle.rules.specs.declared.Vcpu.{Vcpu}
use Rattle.rules.specs.Words.{record_size, little, without_bit}
use Rattle.rules.specs.Machine.{Lent, plain, pool_free, own, grant, zeros, efer, page_at, written, write, with_memory, holds, record_at, vcpu, amend}
use Rattle.rules.specs.Calls.{clear_svme, deleted}
use Rattle.laws.specs.Revised.{revise}
use Rattle.laws.proofs.Change.{change_table, change_memory, change_sheet}
use Rattle.laws.proofs.Ranges.{by_test}

-- the table with both pages plain, and the pool page free, where one is held
abbrev pub freed : ℕ → Vcpu → List ℕ → List ℕ
freed vmpl v table = revise (own plain) 0 v.calling (revise (λ b. grant vmpl (own plain b)) 0 v.vmsa table)

pub cleared : (vmpl i : ℕ) (m : Lent)
    → deleted vmpl i m
    ≡ record {
      memory = written (vcpu m i).vmsa 0xD0 (little 8 (without_bit 12 (efer (get_or m.memory (vcpu m i).vmsa [])))) m.memory;
      table = cond (holds (record_at m i)) (revise (own pool_free) 0 (vcpu m i).pool (freed vmpl (vcpu m i) m.table)) (freed vmpl (vcpu m i) m.table);
      sheet = set m.sheet i (zeros record_size);
    }
unfolding deleted clear_svme amend write with_memory page_at
cleared vmpl i m =
    by_test (holds (record_at m i))
    (λ t. rw t (simp (change_table, change_memory, change_sheet)))
    (λ t. rw t (simp (change_table, change_memory, change_sheet)))
