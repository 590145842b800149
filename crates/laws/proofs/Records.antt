-- Laws of a record of the vCPU sheet: the fields of a record laid out and of zeros, and what a mark and a new calling area do to the fields.
use mathlib.Core.Path.{◌≡◌, refl}
use mathlib.Core.Bool.{false}
use mathlib.Core.Logic.{inl, inr}
use mathlib.Core.List.{List, []}
use Prim.Native.Nat.{ℕ, ◌^◌, ◌<◌, ◌≤◌}
use native.Mathlib.Omega.{arith}
use native.Mathlib.Nat.{ne_of_lt, ne_of_gt}
use lib.Dec.{eqb, lit<, lit≤}
use lib.ListN.{length, set}
use lib.Seq.{sets, get_or-set_same, get_or-set_other}
use Rattle.rules.specs.Words.{record_size, little, number}
use Rattle.rules.specs.declared.Vcpu.{Vcpu}
use Rattle.rules.specs.Machine.{fields, laid_out, is_live, holds, zeros}
use Rattle.laws.proofs.Numbers.{length_little, number_little_fits, number_written, number_elsewhere, number_set_elsewhere, number_zeros}
use Rattle.laws.proofs.Numbers.{getD_sets_elsewhere, zeros_at}

-- a record laid out is as long as the sheet's records are
pub length_laid_out : (v : Vcpu) → length (laid_out v) ≡ record_size
unfolding laid_out little record_size
length_laid_out v = refl

-- a record laid out has the fields that it was made of, where each fits into its bytes
pub fields_laid_out : (v : Vcpu) → v.apic < 256 ^ 4 → v.vmsa < 256 ^ 4 → v.calling < 256 ^ 4 → v.pool < 256 ^ 4
    → v.spare < 256 ^ 4 → v.features < 256 ^ 8 → fields (laid_out v) ≡ v
unfolding fields laid_out little number
fields_laid_out v a m c p s f =
    λ i. record {
      live = v.live;
      vmpl = v.vmpl;
      running = v.running;
      holding = v.holding;
      apic = number_little_fits 4 v.apic [] a i;
      vmsa = number_little_fits 4 v.vmsa [] m i;
      calling = number_little_fits 4 v.calling [] c i;
      pool = number_little_fits 4 v.pool [] p i;
      spare = number_little_fits 4 v.spare [] s i;
      features = number_little_fits 8 v.features [] f i;
    }

-- each field of zeros is 0
pub fields_zeros : (n : ℕ)
    → fields (zeros n) ≡ record {
      live = 0;
      vmpl = 0;
      running = 0;
      holding = 0;
      apic = 0;
      vmsa = 0;
      calling = 0;
      pool = 0;
      spare = 0;
      features = 0;
    }
unfolding fields
fields_zeros n = simp (zeros_at, number_zeros)

-- a mark changes the field `running` alone
pub fields_marked : (r : List ℕ) (value : ℕ) → length r ≡ record_size
    → fields (set r 2 value) ≡ record {
      live = (fields r).live;
      vmpl = (fields r).vmpl;
      running = value;
      holding = (fields r).holding;
      apic = (fields r).apic;
      vmsa = (fields r).vmsa;
      calling = (fields r).calling;
      pool = (fields r).pool;
      spare = (fields r).spare;
      features = (fields r).features;
    }
unfolding fields record_size
fields_marked r value h =
    let inside : 2 < length r = omega arith in
    simp (get_or-set_same, get_or-set_other, number_set_elsewhere, inr, ne_of_lt, ne_of_gt, lit<, tt {0})

-- a new calling area changes the field `calling` alone
pub fields_remapped : (r : List ℕ) (p : ℕ) → length r ≡ record_size → p < 256 ^ 4
    → fields (sets r 12 (little 4 p)) ≡ record {
      live = (fields r).live;
      vmpl = (fields r).vmpl;
      running = (fields r).running;
      holding = (fields r).holding;
      apic = (fields r).apic;
      vmsa = (fields r).vmsa;
      calling = p;
      pool = (fields r).pool;
      spare = (fields r).spare;
      features = (fields r).features;
    }
unfolding fields record_size
fields_remapped r p h b =
    let behind : (w i : ℕ) → 16 ≤ i → number w (sets r 12 (little 4 p)) i ≡ number w r i =
    λ w i c. number_elsewhere w r 12 (little 4 p) i (inr (omega (arith, length_little 4 p))) in
    simp (number_written 4 r 12 p (omega arith) b, getD_sets_elsewhere, number_elsewhere, behind, inl, lit<, lit≤, tt {0})

-- a record laid out is live as its field says
pub is_live_laid_out : (v : Vcpu) → is_live (laid_out v) ≡ eqb v.live 1
unfolding is_live fields laid_out
is_live_laid_out v = refl

-- zeros are not live
pub is_live_zeros : (n : ℕ) → is_live (zeros n) ≡ false
unfolding is_live
is_live_zeros n = rw fields_zeros

-- nor does a new calling area change whether a record is live
pub is_live_remapped : (r : List ℕ) (p : ℕ) → is_live (sets r 12 (little 4 p)) ≡ is_live r
unfolding is_live fields
is_live_remapped r p = rw (getD_sets_elsewhere r 12 (little 4 p) 0 0 (inl (omega arith)))

-- nor whether it holds a pool page
pub holds_remapped : (r : List ℕ) (p : ℕ) → holds (sets r 12 (little 4 p)) ≡ holds r
unfolding holds fields
holds_remapped r p = rw (getD_sets_elsewhere r 12 (little 4 p) 3 0 (inl (omega arith)))
