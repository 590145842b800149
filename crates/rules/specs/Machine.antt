-- "The machine as it is lent": memory as pages, the page table's bytes, the vCPU sheet as records.
-- All is total: what lies outside reads as zeros, and a write there changes nothing.
use Rattle.std.specs.Prelude.{ℕ, ◌+◌, ◌*◌, ◌/◌, ◌%◌, Bool, cond, ◌&&◌, List, [], ◌∷◌, ◌++◌, leb, ltb, eqb, length, get_or, set, replicate}
use Rattle.std.proofs.lemmas.List.Edits.{sets}
use Rattle.rules.specs.Words.{page_size, records_without_pool, between, bits, bit, with_bit, without_bit, little, number}
use Rattle.rules.specs.Answers.{Vcpu}

infixl 10 ◌▷◌
-- what the calls are lent to change
pub record Lent : Type 0 where
  pub memory : List (List ℕ)
  pub table : List ℕ
  pub sheet : List (List ℕ)

-- the machine, which launch and the call see whole: what later requests put beside the lent buffers will be fields more
pub record Machine : Type 0 where
  pub lent : Lent

abbrev pub machine_of : Lent → Machine
machine_of lent = record { lent = lent }

unfoldable pub with_lent : Lent → Machine → Machine
with_lent lent m = record { lent = lent }

-- "Effects come in the order written": m, then the effect f
abbrev pub ◌▷◌ : {A B : Type 0} → A → (A → B) → B
m ▷ f = f m

-- "Guest memory: 4,096 x N bytes": N is the length of the table
unfoldable pub N : Lent → ℕ
N m = length m.table

unfoldable pub below : Lent → ℕ → Bool
below m p = ltb p (N m)

-- "Page p starts at gPA 4,096 x p": the page of a gPA, from all its bits, and the place in that page
unfoldable pub page_of : ℕ → ℕ
page_of gpa = gpa / page_size

unfoldable pub offset_of : ℕ → ℕ
offset_of gpa = gpa % page_size

unfoldable pub page_at : Lent → ℕ → List ℕ
page_at m p = get_or m.memory p []

unfoldable pub with_memory : List (List ℕ) → Lent → Lent
with_memory pages m = record { memory = pages; table = m.table; sheet = m.sheet }

-- pages with bytes written in page p from `offset` on
unfoldable pub written : ℕ → ℕ → List ℕ → List (List ℕ) → List (List ℕ)
written p offset bytes pages = set pages p (sets (get_or pages p []) offset bytes)

unfoldable pub write : ℕ → ℕ → List ℕ → Lent → Lent
write p offset bytes m = with_memory (written p offset bytes m.memory) m

-- n zeros, and page p filled with zeros
unfoldable pub zeros : ℕ → List ℕ
zeros n = replicate n 0

unfoldable pub fill : ℕ → Lent → Lent
fill p m = with_memory (set m.memory p (zeros page_size)) m

-- "Page table: one byte a page. Bits 2:0 owner: 0 plain, 1 calling area, 2 monitor, 3 pool free, 4 pool in use, 5 VMSA;
-- 6 and 7 are nobody's and count as not plain"
unfoldable pub owner : ℕ → ℕ
owner b = bits 2 0 b

abbrev pub plain : ℕ
plain = 0

abbrev pub calling_area : ℕ
calling_area = 1

abbrev pub monitor : ℕ
monitor = 2

abbrev pub pool_free : ℕ
pool_free = 3

abbrev pub pool_in_use : ℕ
pool_in_use = 4

abbrev pub vmsa_area : ℕ
vmsa_area = 5

-- "Bit 3 valid. Bits 4, 5, 6 full permission for VMPL 1, 2, 3": no other VMPL has any
unfoldable pub valid : ℕ → Bool
valid b = bit 3 b

unfoldable pub permitted : ℕ → ℕ → Bool
permitted c b = between 1 3 c && bit (3 + c) b

-- ""Grant c" sets the permissions of VMPL 1 to c and leaves the rest. "Revoke" clears all three"
unfoldable pub grant : ℕ → ℕ → ℕ
grant c b =
    let allow : ℕ → ℕ → ℕ = λ v x. cond (leb v c) (with_bit (3 + v) x) x in
    b ▷ allow 1 ▷ allow 2 ▷ allow 3

unfoldable pub revoke : ℕ → ℕ
revoke b = b ▷ without_bit 4 ▷ without_bit 5 ▷ without_bit 6

-- "A change of owner leaves bits 7:3"
unfoldable pub own : ℕ → ℕ → ℕ
own o b = b / 8 * 8 + o

unfoldable pub make_valid : ℕ → ℕ
make_valid b = with_bit 3 b

unfoldable pub make_invalid : ℕ → ℕ
make_invalid b = without_bit 3 b

-- the table byte of page p; the one way to write it; and over that the single-page step, which changes it by f
unfoldable pub table_byte : Lent → ℕ → ℕ
table_byte m p = get_or m.table p 0

unfoldable pub put : ℕ → ℕ → Lent → Lent
put p b m = record { memory = m.memory; table = set m.table p b; sheet = m.sheet }

unfoldable pub change : (ℕ → ℕ) → ℕ → Lent → Lent
change f p m = put p (f (table_byte m p)) m

-- tests of a page: its owner; and "below N" and "valid", for a caller of this VMPL, which does not bear on them
unfoldable pub owned_by : ℕ → Lent → ℕ → Bool
owned_by o m p = eqb (owner (table_byte m p)) o

unfoldable pub usable : ℕ → Lent → ℕ → Bool
usable vmpl m p = below m p && valid (table_byte m p)

-- "+0 live (0/1), +1 VMPL, +2 running (0/1), +3 holds a pool page (0/1), +4 APIC ID (4), +8 VMSA page (4), +12 calling-area page (4),
-- +16 pool page (4; 0 if none held), +20 zeros (4), +24 SEV features (8; ..)": read from a record, and laid out as one
unfoldable pub fields : List ℕ → Vcpu
fields r =
    record {
      live = get_or r 0 0;
      vmpl = get_or r 1 0;
      running = get_or r 2 0;
      holding = get_or r 3 0;
      apic = number 4 r 4;
      vmsa = number 4 r 8;
      calling = number 4 r 12;
      pool = number 4 r 16;
      spare = number 4 r 20;
      features = number 8 r 24;
    }

unfoldable pub laid_out : Vcpu → List ℕ
laid_out v =
    (v.live ∷ v.vmpl ∷ v.running ∷ v.holding ∷ []) ++ little 4 v.apic ++ little 4 v.vmsa
    ++ little 4 v.calling ++ little 4 v.pool ++ little 4 v.spare ++ little 8 v.features

unfoldable pub is_live : List ℕ → Bool
is_live r = eqb (fields r).live 1

unfoldable pub holds : List ℕ → Bool
holds r = eqb (fields r).holding 1

-- "A live record from 4 up holds a pool page, 0 to 3 never do"
unfoldable pub needs_page : ℕ → Bool
needs_page i = leb records_without_pool i

-- record i, and the record changed by f. "Record 0 is the startup vCPU"
unfoldable pub record_at : Lent → ℕ → List ℕ
record_at m i = get_or m.sheet i []

unfoldable pub vcpu : Lent → ℕ → Vcpu
vcpu m i = fields (record_at m i)

unfoldable pub startup : Lent → Vcpu
startup m = vcpu m 0

unfoldable pub amend : (List ℕ → List ℕ) → ℕ → Lent → Lent
amend f i m = record { memory = m.memory; table = m.table; sheet = set m.sheet i (f (record_at m i)) }

-- the fields of a VMSA page: "offset 0xCA one byte, 0x3B0 eight bytes", "EFER (0xD0, eight bytes)"
unfoldable pub vmsa_vmpl : List ℕ → ℕ
vmsa_vmpl page = get_or page 0xCA 0

unfoldable pub vmsa_features : List ℕ → ℕ
vmsa_features page = number 8 page 0x3B0

unfoldable pub efer : List ℕ → ℕ
efer page = number 8 page 0xD0
