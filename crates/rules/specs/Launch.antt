-- "Launch."
use Rattle.std.specs.Prelude.{ℕ, ◌+◌, ◌-◌, Bool, cond, not, ◌&&◌, ◌||◌, List, [], ◌∷◌, map, leb, ltb, eqb, replicate, Ok, Err}
use Rattle.rules.specs.Words.{records, record_size}
use Rattle.rules.specs.Words.{between, bit, range}
use Rattle.rules.specs.Answers.{Plan, Launched, OutOfRange, AreasMeet, UnfitVmsa, Answered, refuse}
use Rattle.rules.specs.Machine.{Lent, Machine, machine_of, N, page_at, write, zeros, laid_out, vmsa_vmpl, vmsa_features, efer}

unfoldable pub in_monitor : Plan → ℕ → Bool
in_monitor plan p = leb plan.first p && ltb p (plan.first + plan.count)

-- "2 a page or V out of range, or the monitor empty", in a machine of n pages
unfoldable pub out_of_range : Plan → ℕ → Bool
out_of_range plan n =
    ltb n (plan.first + plan.count) || leb n plan.vmsa || leb n plan.calling || ltb n plan.valid || eqb plan.count 0

-- "3 two of the three areas meet"
unfoldable pub areas_meet : Plan → Bool
areas_meet plan = eqb plan.vmsa plan.calling || in_monitor plan plan.vmsa || in_monitor plan plan.calling

-- "4 VMPL not 1 to 3 or EFER (0xD0, eight bytes) bit 12 clear"
unfoldable pub unfit_vmsa : List ℕ → Bool
unfit_vmsa page = not (between 1 3 (vmsa_vmpl page)) || not (bit 12 (efer page))

-- "Monitor bytes 0x0A, VMSA 0x0D, calling page 0x79; other pages below V 0x78, the rest 0x00"
unfoldable pub launch_byte : Plan → ℕ → ℕ
launch_byte plan p =
    cond (in_monitor plan p) 0x0A
    (cond (eqb p plan.vmsa) 0x0D
    (cond (eqb p plan.calling) 0x79
    (cond (ltb p plan.valid) 0x78 0x00)))

unfoldable pub launch_table : Plan → ℕ → List ℕ
launch_table plan n = map (launch_byte plan) (range 0 n)

-- "Record 0 is live, not running, holds nothing, and takes VMPL and features from the VMSA"
unfoldable pub launch_record : Plan → List ℕ → List ℕ
launch_record plan page =
    laid_out (record {
      live = 1;
      vmpl = vmsa_vmpl page;
      running = 0;
      holding = 0;
      apic = plan.apic;
      vmsa = plan.vmsa;
      calling = plan.calling;
      pool = 0;
      spare = 0;
      features = vmsa_features page;
    })

-- "the other records are zeros"
unfoldable pub launch_sheet : Plan → List ℕ → List (List ℕ)
launch_sheet plan page = launch_record plan page ∷ replicate (records - 1) (zeros record_size)

-- "bytes 0 and 1 of the calling page become 0"
unfoldable pub made : Plan → Lent → Machine
made plan m =
    let sheet : List (List ℕ) = launch_sheet plan (page_at m plan.vmsa) in
    machine_of (write plan.calling 0 (0 ∷ 0 ∷ []) (record { memory = m.memory; table = launch_table plan (N m); sheet = sheet }))

-- "Lowest number wins; unless 0, nothing changes." Answer 1, a size wrong, is given by Flat
unfoldable pub launch : Plan → Machine → Answered Launched Machine
launch plan m =
    refuse m (out_of_range plan (N m.lent)) (Err OutOfRange)
    (refuse m (areas_meet plan) (Err AreasMeet)
    (refuse m (unfit_vmsa (page_at m.lent plan.vmsa)) (Err UnfitVmsa)
    (record { answer = Ok tt; after = made plan m.lent })))
