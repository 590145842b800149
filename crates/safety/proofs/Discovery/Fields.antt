-- The fields as bytes: what is laid out is read back, alone and wherever it is stored.
use mathlib.Core.Path.{◌≡◌, refl, sym, ◌∙◌, ap}
use mathlib.Core.List.{List, []}
use Prim.Native.Nat.{ℕ, ◌+◌, ◌-◌, ◌^◌, ◌<◌, ◌≤◌}
use native.Mathlib.Omega.{arith}
use native.Mathlib.Nat.{add-zero}
use lib.ListN.{length, get_or, drop}
use lib.Seq.{sets, get_or-drop}
use Rattle.rules.specs.declared.Discovery.{Discovery}
use Rattle.rules.specs.Words.{little, number}
use Rattle.rules.specs.Machine.{zeros}
use Rattle.rules.specs.Discovery.{discovery_bytes}
use Rattle.laws.proofs.Chop.{sets_whole}
use Rattle.laws.proofs.Numbers.{number_little_fits, zeros_at, getD_stored, number_stored}
use Rattle.safety.specs.Discovery.{Fields, Discovered}

-- numbers that fit their bytes
pub record InWidth (d : Discovery) : Type 0 where
  pub base_fits : d.base < 256 ^ 8
  pub size_fits : d.size < 256 ^ 8
  pub area_fits : d.area < 256 ^ 8
  pub version_fits : d.version < 256 ^ 4

module _ (d : Discovery) where
  -- there are 32 bytes
  pub length_fields : length (discovery_bytes d) ≡ 32
  unfolding discovery_bytes little
  length_fields = refl

  -- the VMPL is byte 28
  vmpl_read : get_or (discovery_bytes d) 28 0 ≡ d.vmpl
  unfolding discovery_bytes little
  vmpl_read = refl

  -- and all behind it is 0
  reserved_read : (k : ℕ) → 29 ≤ k → get_or (discovery_bytes d) k 0 ≡ 0
  unfolding discovery_bytes little zeros
  reserved_read k h =
      let last : get_or (drop 29 (discovery_bytes d)) (k - 29) 0 ≡ 0 = zeros_at 3 (k - 29) in
      ap (λ (j : ℕ). get_or (discovery_bytes d) j 0) {x = k} {y = 29 + (k - 29)} (omega arith) ∙ sym (get_or-drop 29 (discovery_bytes d) (k - 29) 0) ∙ last

  module _ (fits : InWidth d) where
    -- the numbers are read as they were laid out
    base_read : number 8 (discovery_bytes d) 0 ≡ d.base
    unfolding discovery_bytes little number
    base_read = number_little_fits 8 d.base [] fits.base_fits

    size_read : number 8 (discovery_bytes d) 8 ≡ d.size
    unfolding discovery_bytes little number
    size_read = number_little_fits 8 d.size [] fits.size_fits

    area_read : number 8 (discovery_bytes d) 16 ≡ d.area
    unfolding discovery_bytes little number
    area_read = number_little_fits 8 d.area [] fits.area_fits

    version_read : number 4 (discovery_bytes d) 24 ≡ d.version
    unfolding discovery_bytes little number
    version_read = number_little_fits 4 d.version [] fits.version_fits

    -- in any bytes, where they are stored
    pub stored : (l : List ℕ) (at : ℕ) → at + 32 ≤ length l → Fields at d.base d.size d.area d.version d.vmpl (sets l at (discovery_bytes d))
    stored l at h =
        let vs = discovery_bytes d in
        let room : at + length vs ≤ length l = omega (arith, length_fields) in
        let byte : (i : ℕ) → i < 32 → get_or (sets l at vs) (at + i) 0 ≡ get_or vs i 0
        = λ i b. getD_stored l at vs i 0 room (omega (arith, length_fields)) in
        let read : (w i : ℕ) → i + w ≤ 32 → number w (sets l at vs) (at + i) ≡ number w vs i
        = λ w i b. number_stored w l at vs i room (omega (arith, length_fields)) in
        record {
          base_there = rw add-zero at (read 8 0 (omega arith)) ∙ base_read;
          size_there = read 8 8 (omega arith) ∙ size_read;
          area_there = read 8 16 (omega arith) ∙ area_read;
          version_there = read 4 24 (omega arith) ∙ version_read;
          vmpl_there = byte 28 (omega arith) ∙ vmpl_read;
          reserved = λ k low high.
              ap (λ (j : ℕ). get_or (sets l at vs) j 0) {x = k} {y = at + (k - at)} (omega arith) ∙ byte (k - at) (omega arith)
              ∙ reserved_read (k - at) (omega arith);
        }

    -- and alone
    pub handed_out : Discovered d.base d.size d.area d.version d.vmpl (discovery_bytes d)
    handed_out =
        record {
          sized = length_fields;
          there = rw (sets_whole (discovery_bytes d) (discovery_bytes d) refl) at (stored (discovery_bytes d) 0 (omega (arith, length_fields)));
        }
