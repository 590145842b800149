-- Request 2026-01, "Tell the firmware where we are": the discovery fields of the secrets page (document 000, table 1), their writer, and their reader for firmware.
use Rattle.std.specs.Prelude.{ℕ, ◌+◌, ◌^◌, Bool, not, ◌&&◌, List, [], ◌∷◌, ◌++◌, leb, ltb, eqb, length, get_or, Result, Ok, Err}
use Rattle.std.proofs.lemmas.List.Edits.{sets}
use Rattle.rules.specs.Words.{page_size, multiple, little, number}
use Rattle.rules.specs.Answers.{Answered, refuse}
pub use Rattle.rules.specs.declared.Discovery.{Discovery}
pub use Rattle.rules.specs.declared.DiscoveryError.{DiscoveryError}
pub use Rattle.rules.specs.declared.DiscoveryError.TheVariants.{UnalignedBase, UnalignedSize, UnalignedArea, PastEnd, AreaInside, NoMonitor, WrongLength}

-- what the writer and the reader answer: nothing to tell, or why they refuse
abbrev pub Located : Type 0
Located = Result (Unit {0}) DiscoveryError

-- "refused with 1 to 5 in this order (base, size, area, end, inside)", "size 0 with 6", "A page of another length is 7". Ours: 0 where nothing is refused, and 6 in the
-- reader too
unfoldable pub located_number : Located → ℕ
located_number (Ok told) = 0
located_number (Err UnalignedBase) = 1
located_number (Err UnalignedSize) = 2
located_number (Err UnalignedArea) = 3
located_number (Err PastEnd) = 4
located_number (Err AreaInside) = 5
located_number (Err NoMonitor) = 6
located_number (Err WrongLength) = 7

-- "SVSM_BASE, SIZE, CAA, MAX_VERSION (1) and GUEST_VMPL at 0x140 to 0x15C .. with the reserved three bytes 0": eight, eight, eight, four and one byte, read from a
-- page, and laid out; the reserved bytes are not read
unfoldable pub discovery_of : List ℕ → Discovery
discovery_of page =
    record {
      base = number 8 page 0x140;
      size = number 8 page 0x148;
      area = number 8 page 0x150;
      version = number 4 page 0x158;
      vmpl = get_or page 0x15C 0;
    }

unfoldable pub discovery_bytes : Discovery → List ℕ
discovery_bytes d =
    little 8 d.base ++ little 8 d.size ++ little 8 d.area ++ little 4 d.version ++ (d.vmpl ∷ 0 ∷ 0 ∷ 0 ∷ [])

unfoldable pub fields_size : ℕ
fields_size = 32

-- "a range that passes the end of 64-bit addresses": one that ends there does not pass it
unfoldable pub past_end : Discovery → Bool
past_end d = ltb (2 ^ 64) (d.base + d.size)

-- "an area inside the range"
unfoldable pub area_inside : Discovery → Bool
area_inside d = leb d.base d.area && ltb d.area (d.base + d.size)

-- "a base, size or area that is not a multiple of 4,096, a range that passes the end of 64-bit addresses, or an area inside the range is refused with 1 to 5 in this
-- order (base, size, area, end, inside)"
unfoldable pub refuse_range : {B : Type 0} → B → Discovery → Answered Located B → Answered Located B
refuse_range now d rest =
    refuse now (not (multiple page_size d.base)) (Err UnalignedBase)
    (refuse now (not (multiple page_size d.size)) (Err UnalignedSize)
    (refuse now (not (multiple page_size d.area)) (Err UnalignedArea)
    (refuse now (past_end d) (Err PastEnd)
    (refuse now (area_inside d) (Err AreaInside)
    rest))))

-- "The writer refuses the same, and size 0 with 6, tested last, and then writes nothing. A page of another length is 7 in both, first of all." "MAX_VERSION (1)", "all
-- else kept"
unfoldable pub announce : (base size area vmpl : ℕ) → List ℕ → Answered Located (List ℕ)
announce base size area vmpl page =
    let d : Discovery = record { base = base; size = size; area = area; version = 1; vmpl = vmpl } in
    refuse page (not (eqb (length page) page_size)) (Err WrongLength)
    (refuse_range page d
    (refuse page (eqb size 0) (Err NoMonitor)
    (record { answer = Ok tt; after = sets page 0x140 (discovery_bytes d) })))

-- "Also supply the reader for firmware: size 0 means no monitor, whatever else stands there", then 1 to 5. Ours: the fields are handed out into 32 bytes, laid out as in
-- the page, version and VMPL as they stand, the last three 0; another number of bytes for them is 7 too, and unless the answer is 0 they are as they were
unfoldable pub discover : List ℕ → List ℕ → Answered Located (List ℕ)
discover page fields =
    let d : Discovery = discovery_of page in
    refuse fields (not (eqb (length page) page_size && eqb (length fields) fields_size)) (Err WrongLength)
    (refuse fields (eqb d.size 0) (Err NoMonitor)
    (refuse_range fields d
    (record { answer = Ok tt; after = discovery_bytes d })))
