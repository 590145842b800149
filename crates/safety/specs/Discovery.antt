-- What is proved of the discovery fields of the secrets page (request 2026-01), to be read as Statements is. `announce` is the writer and `discover` the reader that the
-- promises cite. Which answer is given is said in numbers, and what is written and handed out by the numbers at its places, so that a wrong rule breaks a statement and
-- does not move it. proofs/Discovery/Theorems.antt has a proof for each.
use Rattle.std.specs.Prelude.{◌≡◌, ◌⊎◌, List, ℕ, ◌+◌, ◌*◌, ◌%◌, ◌^◌, ◌<◌, ◌≤◌, length, get_or}
use Rattle.rules.specs.Words.{number}
use Rattle.rules.specs.declared.Plan.{Plan}
use Rattle.rules.specs.Answers.{launched_number}
use Rattle.rules.specs.Machine.{startup}
use Rattle.rules.specs.Flat.{Buffers, parted, launch_bytes}
use Rattle.rules.specs.Discovery.{located_number, announce, discover}
use Rattle.rules.specs.Promises.{AnnouncePromise, DiscoverPromise, MonitorAnnouncePromise, MonitorDiscoverPromise}
use Rattle.safety.specs.Determined.{Determined, ToldApart}

-- ---- The words

-- base, size and area are multiples of 4,096
pub record Whole (base size area : ℕ) : Type 0 where
  pub base_whole : base % 4096 ≡ 0
  pub size_whole : size % 4096 ≡ 0
  pub area_whole : area % 4096 ≡ 0

-- and the range does not pass the end, and the area is not inside it
pub record Apart (base size area : ℕ) : Type 0 where
  pub whole : Whole base size area
  pub within : base + size ≤ 2 ^ 64
  pub outside : (area < base) ⊎ (base + size ≤ area)

-- nothing is refused
pub record Fit (base size area : ℕ) : Type 0 where
  pub apart : Apart base size area
  pub some : 0 < size

-- the number of the first check that fails, in the writer's order
pub data RefusedAs (base size area : ℕ) : ℕ → Type 0 where
  by_base : (base % 4096 ≡ 0 → ⊥) → RefusedAs base size area 1
  by_size : base % 4096 ≡ 0 → (size % 4096 ≡ 0 → ⊥) → RefusedAs base size area 2
  by_area : base % 4096 ≡ 0 → size % 4096 ≡ 0 → (area % 4096 ≡ 0 → ⊥) → RefusedAs base size area 3
  by_end : Whole base size area → 2 ^ 64 < base + size → RefusedAs base size area 4
  by_inside : Whole base size area → base + size ≤ 2 ^ 64 → base ≤ area → area < base + size → RefusedAs base size area 5
  by_none : Apart base size area → size ≡ 0 → RefusedAs base size area 6

-- the fields stand in these bytes from `at` on: in the page from 0x140, in what the reader hands out from 0
pub record Fields (at base size area version vmpl : ℕ) (bytes : List ℕ) : Type 0 where
  pub base_there : number 8 bytes at ≡ base
  pub size_there : number 8 bytes (at + 8) ≡ size
  pub area_there : number 8 bytes (at + 16) ≡ area
  pub version_there : number 4 bytes (at + 24) ≡ version
  pub vmpl_there : get_or bytes (at + 28) 0 ≡ vmpl
  pub reserved : (k : ℕ) → at + 29 ≤ k → k < at + 32 → get_or bytes k 0 ≡ 0

-- what the writer leaves in a page: the fields, version 1, and all else kept
pub record Announced (base size area vmpl : ℕ) (page after : List ℕ) : Type 0 where
  pub sized : length after ≡ length page
  pub there : Fields 0x140 base size area 1 vmpl after
  pub kept : (k : ℕ) → (k < 0x140) ⊎ (0x160 ≤ k) → get_or after k 0 ≡ get_or page k 0

-- what the reader hands out: 32 bytes, with these fields
pub record Discovered (base size area version vmpl : ℕ) (after : List ℕ) : Type 0 where
  pub sized : length after ≡ 32
  pub there : Fields 0 base size area version vmpl after

-- base, size and area are numbers of 64 bits
unfoldable pub In64Bits : (base size area : ℕ) → Type 0
In64Bits base size area = (base < 2 ^ 64) × (size < 2 ^ 64) × (area < 2 ^ 64)

-- ---- The writer takes exactly what is fit, in a page of 4,096 bytes; then the fields are there. Else it tells the first fault, and the page is as it was

unfoldable pub WriterTakes : Type 0
WriterTakes =
    (base size area vmpl : ℕ) (page : List ℕ) →
    let answer = located_number (announce base size area vmpl page).answer in
    (answer ≡ 0 → (length page ≡ 4096) × Fit base size area) × (length page ≡ 4096 → Fit base size area → answer ≡ 0)

unfoldable pub WriterAnswers : Type 0
WriterAnswers =
    (base size area vmpl : ℕ) (page : List ℕ) →
    let answer = located_number (announce base size area vmpl page).answer in
    ((length page ≡ 4096 → ⊥) → answer ≡ 7) × ((k : ℕ) → length page ≡ 4096 → RefusedAs base size area k → answer ≡ k)

unfoldable pub WriterWrites : Type 0
WriterWrites =
    (base size area vmpl : ℕ) (page : List ℕ) → In64Bits base size area → located_number (announce base size area vmpl page).answer ≡ 0
    → Announced base size area vmpl page (announce base size area vmpl page).after

unfoldable pub WriterRefuses : Type 0
WriterRefuses =
    (base size area vmpl : ℕ) (page : List ℕ) → (located_number (announce base size area vmpl page).answer ≡ 0 → ⊥)
    → (announce base size area vmpl page).after ≡ page

-- ---- The reader takes exactly the same, from a page of 4,096 bytes into 32; then it hands out the fields as they stand, the reserved bytes 0. Else it tells the first
-- fault, where size 0 comes before the others, and hands out nothing

unfoldable pub ReaderTakes : Type 0
ReaderTakes =
    (page fields : List ℕ) →
    let answer = located_number (discover page fields).answer in
    let fit = Fit (number 8 page 0x140) (number 8 page 0x148) (number 8 page 0x150) in
    (answer ≡ 0 → (length page ≡ 4096) × (length fields ≡ 32) × fit) × (length page ≡ 4096 → length fields ≡ 32 → fit → answer ≡ 0)

unfoldable pub ReaderAnswers : Type 0
ReaderAnswers =
    (page fields : List ℕ) →
    let answer = located_number (discover page fields).answer in
    let size = number 8 page 0x148 in
    ((length page ≡ 4096 → ⊥) ⊎ (length fields ≡ 32 → ⊥) → answer ≡ 7)
    × ((k : ℕ) → length page ≡ 4096 → length fields ≡ 32 → 0 < size → RefusedAs (number 8 page 0x140) size (number 8 page 0x150) k → answer ≡ k)

-- of a page of bytes, each below 256
unfoldable pub ReaderHandsOut : Type 0
ReaderHandsOut =
    (page fields : List ℕ) → ((k : ℕ) → get_or page k 0 < 256) → located_number (discover page fields).answer ≡ 0
    → Discovered (number 8 page 0x140) (number 8 page 0x148) (number 8 page 0x150) (number 4 page 0x158) (get_or page 0x15C 0) (discover page fields).after

unfoldable pub ReaderRefuses : Type 0
ReaderRefuses =
    (page fields : List ℕ) → (located_number (discover page fields).answer ≡ 0 → ⊥) → (discover page fields).after ≡ fields

-- "size 0 means no monitor, whatever else stands there"
unfoldable pub Size0IsNoMonitor : Type 0
Size0IsNoMonitor =
    (page fields : List ℕ) → length page ≡ 4096 → length fields ≡ 32 → number 8 page 0x148 ≡ 0 → located_number (discover page fields).answer ≡ 6

-- ---- Both: what the writer wrote the reader reads back

unfoldable pub ReadBack : Type 0
ReadBack =
    (base size area vmpl : ℕ) (page fields : List ℕ) → In64Bits base size area → length fields ≡ 32 →
    let told = announce base size area vmpl page in
    let found = discover told.after fields in
    located_number told.answer ≡ 0 → (located_number found.answer ≡ 0) × Discovered base size area 1 vmpl found.after

-- "Read back, a written page must give the launch values": after a launch that answered 0, the monitor's range, the startup's calling page and the VMPL of record 0
-- are taken, and the reader gives them back
unfoldable pub LaunchReadBack : Type 0
LaunchReadBack =
    (n : ℕ) (plan : Plan) (lent : Buffers) (page fields : List ℕ) → launched_number (launch_bytes n plan lent).answer ≡ 0
    → length page ≡ 4096 → length fields ≡ 32 →
    let base = 4096 * plan.first in
    let size = 4096 * plan.count in
    let area = 4096 * plan.calling in
    let vmpl = (startup (parted (launch_bytes n plan lent).after)).vmpl in
    let told = announce base size area vmpl page in
    let found = discover told.after fields in
    (located_number told.answer ≡ 0) × (located_number found.answer ≡ 0) × Discovered base size area 1 vmpl found.after

-- ---- As Determined has it of the others: any two results that a promise allows coincide, and no two answers have one number

-- `discovery::announce`, `discovery::discover`
unfoldable pub AnnounceDetermined : Type 0
AnnounceDetermined = (base size area vmpl : ℕ) (lent : List ℕ) → Determined (AnnouncePromise base size area vmpl lent)

unfoldable pub DiscoverDetermined : Type 0
DiscoverDetermined = (page lent : List ℕ) → Determined (DiscoverPromise page lent)

-- `door::monitor_announce`, `monitor_discover`
unfoldable pub MonitorAnnounceDetermined : Type 0
MonitorAnnounceDetermined = (base size area vmpl : ℕ) (lent : List ℕ) → Determined (MonitorAnnouncePromise base size area vmpl lent)

unfoldable pub MonitorDiscoverDetermined : Type 0
MonitorDiscoverDetermined = (page lent : List ℕ) → Determined (MonitorDiscoverPromise page lent)

unfoldable pub LocatedToldApart : Type 0
LocatedToldApart = ToldApart located_number
