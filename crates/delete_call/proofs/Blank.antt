-- A record whose fields are all 0 is laid out as zeros.
-- Assumes nothing.
use mathlib.Core.Path.{◌≡◌}
use Rattle.rules.specs.declared.Vcpu.{Vcpu}
use Rattle.rules.specs.Words.{record_size, little}
use Rattle.rules.specs.Machine.{laid_out, zeros}

pub blank : (v : Vcpu)
    → (v.live ≡ 0) × (v.vmpl ≡ 0) × (v.running ≡ 0) × (v.holding ≡ 0) × (v.apic ≡ 0) × (v.vmsa ≡ 0) × (v.calling ≡ 0) × (v.pool ≡ 0) × (v.spare ≡ 0) × (v.features ≡ 0)
    → laid_out v ≡ zeros record_size
unfolding laid_out little zeros record_size
blank v (live, vmpl, running, holding, apic, vmsa, calling, pool, spare, features) =
    rw (live, vmpl, running, holding, apic, vmsa, calling, pool, spare, features)
