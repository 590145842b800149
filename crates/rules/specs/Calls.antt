-- "The eight calls, checks in order": all but Pvalidate and Deposit, which are in Lists.
use Rattle.std.specs.Prelude.{ℕ, ◌+◌, ◌-◌, ◌*◌, ◌/◌, Bool, cond, not, ◌&&◌, ◌||◌, List, [], ◌∷◌, ◌++◌, leb, ltb, eqb, length, take, Ok, Err}
use Rattle.std.proofs.lemmas.List.Edits.{sets}
use Rattle.rules.specs.Words.{page_size, record_size, multiple, bits, bit, without_bit, little, exists, lowest, places, each}
use Rattle.rules.specs.Answers.{Vcpu, Code, Success, OneMorePage, Address, Parameter, Request, InUse, Answered, refuse}
use Rattle.rules.specs.Machine.{Lent, ◌▷◌, page_of, offset_of, page_at, write, zeros, owner, plain, calling_area, pool_free, pool_in_use}
use Rattle.rules.specs.Machine.{vmsa_area, grant, revoke, own, change, owned_by, usable, fields, laid_out, is_live, holds, needs_page}
use Rattle.rules.specs.Machine.{record_at, vcpu, startup, amend, vmsa_vmpl, vmsa_features, efer}
use Rattle.rules.specs.Launch.{unfit_vmsa}
use Rattle.rules.specs.Lists.{bad_list_page}

-- "0 Remap. .. Then the old page turns plain, the new one calling and named by the record, and byte 0 of each is 0. The same page again
-- is success": one change of its table byte
unfoldable pub remapped : ℕ → ℕ → ℕ → Lent → Lent
remapped caller old new m =
    cond (eqb old new) m (change (own plain) old m)
    ▷ change (own calling_area) new
    ▷ amend (λ r. sets r 12 (little 4 new)) caller
    ▷ write old 0 (0 ∷ [])
    ▷ write new 0 (0 ∷ [])

-- "RCX not a multiple of 4,096: PARAMETER. Page not below N, not valid, or neither plain nor the caller's own calling page: ADDRESS"
unfoldable pub remap : ℕ → ℕ → Lent → Answered Code Lent
remap caller rcx m =
    let old : ℕ = (vcpu m caller).calling in
    let new : ℕ = page_of rcx in
    refuse m (not (multiple page_size rcx)) (Err Parameter)
    (refuse m (not (usable (vcpu m caller).vmpl m new) || not (owned_by plain m new) && not (eqb new old)) (Err Address)
    (record { answer = Ok Success; after = remapped caller old new m }))

-- "2 Create. RCX VMSA, RDX calling area, R8 bits 31:0 APIC ID": what is asked for
pub record Asked : Type 0 where
  pub caller_vmpl : ℕ
  pub vmsa : ℕ
  pub calling : ℕ
  pub apic : ℕ

unfoldable pub asked : ℕ → ℕ → ℕ → ℕ → Lent → Asked
asked caller rcx rdx r8 m =
    record { caller_vmpl = (vcpu m caller).vmpl; vmsa = page_of rcx; calling = page_of rdx; apic = bits 31 0 r8 }

-- "Either page not below N, not valid, not plain, or both the same"
unfoldable pub unfit_page : ℕ → Lent → ℕ → Bool
unfit_page vmpl m p = not (usable vmpl m p) || not (owned_by plain m p)

unfoldable pub unfit_pages : Asked → Lent → Bool
unfit_pages a m =
    let unfit : ℕ → Bool = unfit_page a.caller_vmpl m in
    unfit a.vmsa || unfit a.calling || eqb a.vmsa a.calling

-- "VMSA's VMPL 0, above 3, or below the caller's; EFER bit 12 clear; features unlike record 0's; APIC ID of a live record (house)"
unfoldable pub unfit_vcpu : Asked → Lent → Bool
unfit_vcpu a m =
    let page : List ℕ = page_at m a.vmsa in
    unfit_vmsa page || ltb (vmsa_vmpl page) a.caller_vmpl
    || not (eqb (vmsa_features page) (startup m).features)
    || exists (λ r. is_live r && eqb (fields r).apic a.apic) m.sheet

-- "The lowest free record is used. Records 4 to 15 also need the lowest free pool page (house)"
unfoldable pub free_record : Lent → ℕ
free_record m = lowest (λ r. not (is_live r)) m.sheet

unfoldable pub is_free : ℕ → Bool
is_free b = eqb (owner b) pool_free

unfoldable pub free_page : Lent → ℕ
free_page m = lowest is_free m.table

unfoldable pub any_free : Lent → Bool
any_free m = exists is_free m.table

-- "record filled, not running"
unfoldable pub new_record : Asked → ℕ → Lent → List ℕ
new_record a i m =
    laid_out (record {
      live = 1;
      vmpl = vmsa_vmpl (page_at m a.vmsa);
      running = 0;
      holding = cond (needs_page i) 1 0;
      apic = a.apic;
      vmsa = a.vmsa;
      calling = a.calling;
      pool = cond (needs_page i) (free_page m) 0;
      spare = 0;
      features = 0;
    })

-- "Then revoke on the VMSA page, owners set, pool page in use, record filled"
unfoldable pub created : Asked → ℕ → Lent → Lent
created a i m =
    m
    ▷ change (λ b. b ▷ revoke ▷ own vmsa_area) a.vmsa
    ▷ change (own calling_area) a.calling
    ▷ (λ now. cond (needs_page i) (change (own pool_in_use) (free_page m) now) now)
    ▷ amend (λ old. new_record a i m) i

-- "Either not a multiple of 4,096: PARAMETER"; "No free record: REQUEST"; "none free: 0x40000001"
unfoldable pub create : ℕ → ℕ → ℕ → ℕ → Lent → Answered Code Lent
create caller rcx rdx r8 m =
    let a : Asked = asked caller rcx rdx r8 m in
    let i : ℕ = free_record m in
    refuse m (not (multiple page_size rcx) || not (multiple page_size rdx)) (Err Parameter)
    (refuse m (unfit_pages a m) (Err Address)
    (refuse m (unfit_vcpu a m) (Err Parameter)
    (refuse m (leb (length m.sheet) i) (Err Request)
    (refuse m (needs_page i && not (any_free m)) (Err OneMorePage)
    (record { answer = Ok Success; after = created a i m })))))

-- "3 Delete. .. EFER bit 12 in its VMSA page cleared"
unfoldable pub clear_svme : ℕ → Lent → Lent
clear_svme p m = write p 0xD0 (little 8 (without_bit 12 (efer (page_at m p)))) m

-- "that page plain and granted to the caller's VMPL, calling page plain, pool page free if one is held, record all zeros"
unfoldable pub deleted : ℕ → ℕ → Lent → Lent
deleted vmpl i m =
    let v : Vcpu = vcpu m i in
    m
    ▷ clear_svme v.vmsa
    ▷ change (λ b. b ▷ own plain ▷ grant vmpl) v.vmsa
    ▷ change (own plain) v.calling
    ▷ (λ now. cond (holds (record_at m i)) (change (own pool_free) v.pool now) now)
    ▷ amend (λ old. zeros record_size) i

-- the record meant: "the lowest record counts, should two name it"
unfoldable pub named_by : ℕ → Lent → ℕ
named_by p m = lowest (λ r. is_live r && eqb (fields r).vmsa p) m.sheet

-- "RCX not a multiple of 4,096, no live record's VMSA (..), the startup's, or of a record whose VMPL is below the caller's: PARAMETER.
-- Another vCPU, and running: 0x80001003"
unfoldable pub delete : ℕ → ℕ → Lent → Answered Code Lent
delete caller rcx m =
    let i : ℕ = named_by (page_of rcx) m in
    let vmpl : ℕ = (vcpu m caller).vmpl in
    refuse m (not (multiple page_size rcx) || leb (length m.sheet) i || eqb i 0 || ltb (vcpu m i).vmpl vmpl) (Err Parameter)
    (refuse m (not (eqb i caller) && eqb (vcpu m i).running 1) (Err InUse)
    (record { answer = Ok Success; after = deleted vmpl i m }))

-- "5 Withdraw. .. As many free pool pages as fit below the 4,096 boundary, lowest first, rising"
unfoldable pub withdrawn_pages : ℕ → Lent → List ℕ
withdrawn_pages rcx m = take ((page_size - offset_of rcx - 8) / 8) (places is_free 0 m.table)

-- "plain, granted to the caller's VMPL"
unfoldable pub give_back : ℕ → ℕ → Lent → Lent
give_back vmpl p m = change (λ b. b ▷ own plain ▷ grant vmpl) p m

unfoldable pub gpas : List ℕ → List ℕ
gpas [] = []
gpas (p ∷ ps) = little 8 (page_size * p) ++ gpas ps

-- "Count goes in the first two bytes, gPAs from +8; the six bytes between and all after stay"
unfoldable pub withdrawn : ℕ → ℕ → Lent → Lent
withdrawn vmpl rcx m =
    let ps : List ℕ = withdrawn_pages rcx m in
    m
    ▷ each (give_back vmpl) ps
    ▷ write (page_of rcx) (offset_of rcx) (little 2 (length ps))
    ▷ write (page_of rcx) (offset_of rcx + 8) (gpas ps)

-- "RCX not a multiple of 8, or offset 0xFF8: PARAMETER. List page as above: ADDRESS"; "Never incomplete"
unfoldable pub withdraw : ℕ → ℕ → Lent → Answered Code Lent
withdraw caller rcx m =
    let vmpl : ℕ = (vcpu m caller).vmpl in
    refuse m (not (multiple 8 rcx) || eqb (offset_of rcx) 0xFF8) (Err Parameter)
    (refuse m (bad_list_page vmpl rcx m) (Err Address)
    (record { answer = Ok Success; after = withdrawn vmpl rcx m }))

-- "6 Query. RCX becomes 0x0000000100000001 if it was 1, else 0. Success": RCX after it
unfoldable pub query : ℕ → ℕ
query rcx = cond (eqb rcx 1) 0x0000000100000001 0

-- "7 vTOM. RCX bit 0 set and RCX not 1: PARAMETER; RCX 1: success, RCX 0. Configure: bits 11:5 set, or bit 1 clear with bits 63:12 set:
-- PARAMETER; else REQUEST": the code, and RCX after it
unfoldable pub configure : ℕ → Answered Code ℕ
configure rcx =
    refuse rcx (not (eqb (bits 11 5 rcx) 0) || not (bit 1 rcx) && not (eqb (bits 63 12 rcx) 0)) (Err Parameter)
    (record { answer = Err Request; after = rcx })

unfoldable pub vtom : ℕ → Answered Code ℕ
vtom rcx =
    refuse rcx (bit 0 rcx && not (eqb rcx 1)) (Err Parameter)
    (cond (eqb rcx 1) (record { answer = Ok Success; after = 0 }) (configure rcx))
