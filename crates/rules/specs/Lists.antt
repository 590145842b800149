-- "1 Pvalidate, 4 Deposit", and the list page that Withdraw shares with them.
use Rattle.std.specs.Prelude.{ℕ, zero, suc, ◌+◌, ◌-◌, ◌*◌, min, Bool, cond, not, ◌&&◌, ◌||◌, List, leb, ltb, eqb, Result, Ok, Err}
use Rattle.rules.specs.Words.{page_size, large, multiple}
use Rattle.rules.specs.Words.{bits, bit, little, number, range, every, each}
use Rattle.rules.specs.Answers.{Code, Success, Incomplete, Refusal, Address, Parameter, SizeMismatch, NoChange, Entry, reads, ListCall}
use Rattle.rules.specs.Answers.{Pvalidate, Deposit, Wish, Invalid, Valid, Pool, Answered, refuse}
use Rattle.rules.specs.Machine.{Lent, ◌▷◌, below, page_of, offset_of, page_at, write, fill, plain, calling_area, pool_free, valid, grant}
use Rattle.rules.specs.Machine.{revoke, own, make_valid, make_invalid, table_byte, put, owned_by, usable, vcpu}

-- "List page not below N, not valid, neither plain nor calling, or calling with page offset 0", whatever the caller's VMPL
unfoldable pub bad_list_page : ℕ → ℕ → Lent → Bool
bad_list_page vmpl rcx m =
    let p : ℕ = page_of rcx in
    not (usable vmpl m p)
    || not (owned_by plain m p) && not (owned_by calling_area m p)
    || owned_by calling_area m p && eqb (offset_of rcx) 0

-- "RCX is a list: count (2 bytes), next index (2), reserved (4, ignored), entries of 8"
unfoldable pub in_list : ℕ → ℕ → ℕ → Lent → ℕ
in_list width at rcx m = number width (page_at m (page_of rcx)) (offset_of rcx + at)

unfoldable pub list_count : ℕ → Lent → ℕ
list_count rcx m = in_list 2 0 rcx m

unfoldable pub list_next : ℕ → Lent → ℕ
list_next rcx m = in_list 2 2 rcx m

unfoldable pub list_entry : ℕ → ℕ → Lent → ℕ
list_entry k rcx m = in_list 8 (8 + 8 * k) rcx m

unfoldable pub store_index : ℕ → ℕ → Lent → Lent
store_index k rcx m = write (page_of rcx) (offset_of rcx + 2) (little 2 k) m

-- "Count 0, or offset + 8 + 8 x count above 4,096"; "Next not below count"
unfoldable pub bad_count : ℕ → Lent → Bool
bad_count rcx m = eqb (list_count rcx m) 0 || ltb page_size (offset_of rcx + 8 + 8 * list_count rcx m)

unfoldable pub bad_next : ℕ → Lent → Bool
bad_next rcx m = leb (list_count rcx m) (list_next rcx m)

-- "An entry: bits 1:0 size (0 one page, 1 512 pages), bits 63:12 page"
unfoldable pub entry_first : ℕ → ℕ
entry_first e = bits 63 12 e

unfoldable pub entry_pages : ℕ → ℕ
entry_pages e = cond (eqb (bits 1 0 e) 0) 1 large

unfoldable pub covered : ℕ → List ℕ
covered e = range (entry_first e) (entry_pages e)

-- "Sizes 2 and 3, a reserved bit set (Pvalidate 11:4, Deposit 11:2), or a size-1 page not a multiple of 512"
unfoldable pub reserved_bits : ListCall → ℕ → ℕ
reserved_bits Pvalidate e = bits 11 4 e
reserved_bits Deposit e = bits 11 2 e

unfoldable pub malformed : ListCall → ℕ → Bool
malformed call e =
    ltb 1 (bits 1 0 e) || not (eqb (reserved_bits call e) 0) || eqb (bits 1 0 e) 1 && not (multiple large (entry_first e))

-- "Any covered page not below N, not plain, or holding this list", whatever the caller's VMPL
unfoldable pub coverable : ℕ → ℕ → Lent → ℕ → Bool
coverable vmpl rcx m p = below m p && owned_by plain m p && not (eqb p (page_of rcx))

-- "bit 2 is the wished validity, bit 3 ignores "no change". Covered pages not all of equal validity: 0x80001006. Already as wished and
-- bit 3 clear: 0x80001010"; "Deposit: a covered page not valid: ADDRESS"
unfoldable pub read_covered : ListCall → ℕ → ℕ → Lent → Result Entry Refusal
read_covered Pvalidate vmpl e m =
    let valid_all : Bool = every (λ p. valid (table_byte m p)) (covered e) in
    let valid_none : Bool = every (λ p. not (valid (table_byte m p))) (covered e) in
    cond (not valid_all && not valid_none) (Err SizeMismatch)
    (cond (cond (bit 2 e) valid_all valid_none && not (bit 3 e)) (Err NoChange)
    (reads (entry_first e) (entry_pages e) (cond (bit 2 e) Valid Invalid)))
read_covered Deposit vmpl e m =
    cond (not (every (usable vmpl m) (covered e))) (Err Address) (reads (entry_first e) (entry_pages e) Pool)

-- "An entry either reads cleanly into its range and wishes or is refused on the spot"
unfoldable pub read_entry : ListCall → ℕ → ℕ → ℕ → Lent → Result Entry Refusal
read_entry call vmpl rcx e m =
    cond (malformed call e) (Err Parameter)
    (cond (not (every (coverable vmpl rcx m) (covered e))) (Err Address)
    (read_covered call vmpl e m))

-- "wish 0: revoke, make invalid. Wish 1: make valid, .. grant the caller's VMPL, also when bit 3 excused no change"; "Deposit: .. revoke;
-- pool free": a page's table byte
unfoldable pub wished : Wish → ℕ → ℕ → ℕ
wished Invalid vmpl b = b ▷ revoke ▷ make_invalid
wished Valid vmpl b = b ▷ make_valid ▷ grant vmpl
wished Pool vmpl b = b ▷ revoke ▷ own pool_free

-- "Wish 1: .. fill with zeros"; "Bytes stay": its memory
unfoldable pub cleared : Wish → ℕ → Lent → Lent
cleared Invalid p m = m
cleared Valid p m = fill p m
cleared Pool p m = m

-- one page of an entry, and an entry of one page or of 512
unfoldable pub carry_out : Wish → ℕ → ℕ → Lent → Lent
carry_out wish vmpl p m = m ▷ cleared wish p ▷ put p (wished wish vmpl (table_byte m p))

unfoldable pub carry_out_all : Wish → ℕ → ℕ → ℕ → Lent → Lent
carry_out_all wish vmpl first pages m = each (carry_out wish vmpl) (range first pages) m

-- entry k carried out, and the run goes on; or refused: "its index is then stored, earlier entries stand"
unfoldable pub after_entry : Result Entry Refusal → ℕ → ℕ → ℕ → (Lent → Answered Code Lent) → Lent → Answered Code Lent
after_entry (Ok entry) caller rcx k go_on m = go_on (carry_out_all entry.wish (vcpu m caller).vmpl entry.first entry.count m)
after_entry (Err why) caller rcx k go_on m = record { answer = Err why; after = store_index k rcx m }

-- `todo` entries from index k on. "If all is well the new index is stored; the code is incomplete if entries remain, else success"
unfoldable pub run : ListCall → ℕ → ℕ → ℕ → ℕ → Lent → Answered Code Lent
run call caller rcx zero k m = record { answer = Ok (cond (ltb k (list_count rcx m)) Incomplete Success); after = store_index k rcx m }
run call caller rcx (suc todo) k m =
    after_entry (read_entry call (vcpu m caller).vmpl rcx (list_entry k rcx m) m) caller rcx k (run call caller rcx todo (suc k)) m

-- a budget of entries, "done from next"
unfoldable pub run_within : ℕ → ListCall → ℕ → ℕ → Lent → Answered Code Lent
run_within budget call caller rcx m = run call caller rcx (min budget (list_count rcx m - list_next rcx m)) (list_next rcx m) m

-- the head's checks in order; "Up to here the list is untouched"; then the run
unfoldable pub list_call : ℕ → ListCall → ℕ → ℕ → Lent → Answered Code Lent
list_call budget call caller rcx m =
    refuse m (not (multiple 8 rcx)) (Err Parameter)
    (refuse m (bad_list_page (vcpu m caller).vmpl rcx m) (Err Address)
    (refuse m (bad_count rcx m) (Err Parameter)
    (refuse m (bad_next rcx m) (Err Parameter)
    (run_within budget call caller rcx m))))
