-- The words that the definitions are written in, beside the library's own: the limits by name; numbers, their bits and bytes; ranges, and what is
-- looked for in a list.
use Rattle.std.specs.Prelude.{ℕ, zero, suc, ◌+◌, ◌-◌, ◌*◌, ◌/◌, ◌%◌, ◌^◌, Bool, true, false, cond, ◌&&◌, ◌||◌, List, [], ◌∷◌, leb, eqb, get_or}

-- "Guest memory: 4,096 x N bytes, N from 3 to 8,192"
unfoldable pub page_size : ℕ
page_size = 4096

unfoldable pub least_pages : ℕ
least_pages = 3

unfoldable pub most_pages : ℕ
most_pages = 8192

-- "vCPU sheet: 512 bytes, 16 records of 32"
unfoldable pub records : ℕ
records = 16

unfoldable pub record_size : ℕ
record_size = 32

-- "Records 4 to 15 also need the lowest free pool page"
unfoldable pub records_without_pool : ℕ
records_without_pool = 4

-- "up to 32 entries (house) are done"
unfoldable pub entries_a_call : ℕ
entries_a_call = 32

-- "bits 1:0 size (0 one page, 1 512 pages)"
unfoldable pub large : ℕ
large = 512

-- "Registers: 48 bytes"
unfoldable pub registers_size : ℕ
registers_size = 48

-- n is from low to high
unfoldable pub between : ℕ → ℕ → ℕ → Bool
between low high n = leb low n && leb n high

unfoldable pub multiple : ℕ → ℕ → Bool
multiple k n = eqb (n % k) 0

-- bits high:low of n, as the paper writes them
unfoldable pub bits : ℕ → ℕ → ℕ → ℕ
bits high low n = n / 2 ^ low % 2 ^ (suc high - low)

-- bit k of n is set; n with that bit set; n with it clear
unfoldable pub bit : ℕ → ℕ → Bool
bit k n = eqb (n / 2 ^ k % 2) 1

unfoldable pub with_bit : ℕ → ℕ → ℕ
with_bit k n = cond (bit k n) n (n + 2 ^ k)

unfoldable pub without_bit : ℕ → ℕ → ℕ
without_bit k n = cond (bit k n) (n - 2 ^ k) n

-- "Numbers in memory are little-endian": the lowest `width` bytes of n, lowest first
unfoldable pub little : ℕ → ℕ → List ℕ
little zero n = []
little (suc width) n = n % 256 ∷ little width (n / 256)

-- the number whose `width` bytes stand in `bytes` from `at` on; what lies past the end counts as 0
unfoldable pub number : ℕ → List ℕ → ℕ → ℕ
number zero bytes at = 0
number (suc width) bytes at = get_or bytes at 0 + 256 * number width bytes (suc at)

-- the n numbers from `first` on
unfoldable pub range : ℕ → ℕ → List ℕ
range first zero = []
range first (suc n) = first ∷ range (suc first) n

module _ {A : Type 0} where
  -- each element passes the test; some element does; how many do
  unfoldable pub every : (A → Bool) → List A → Bool
  every test [] = true
  every test (x ∷ xs) = test x && every test xs

  unfoldable pub exists : (A → Bool) → List A → Bool
  exists test [] = false
  exists test (x ∷ xs) = test x || exists test xs

  unfoldable pub count : (A → Bool) → List A → ℕ
  count test [] = 0
  count test (x ∷ xs) = cond (test x) (suc (count test xs)) (count test xs)

  -- the place of the lowest element that passes the test; the list's length if none does
  unfoldable pub lowest : (A → Bool) → List A → ℕ
  lowest test [] = 0
  lowest test (x ∷ xs) = cond (test x) 0 (suc (lowest test xs))

  -- the places of the elements that pass the test, rising, counted from `first`
  unfoldable pub places : (A → Bool) → ℕ → List A → List ℕ
  places test first [] = []
  places test first (x ∷ xs) = cond (test x) (first ∷ places test (suc first) xs) (places test (suc first) xs)

  -- an effect for each number of a list in turn
  unfoldable pub each : (ℕ → A → A) → List ℕ → A → A
  each effect [] a = a
  each effect (n ∷ ns) a = each effect ns (effect n a)
