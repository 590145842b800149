-- "A sound machine", as the faults that a program could look for: sound is right sizes, and no page and no record at fault.
use Rattle.std.specs.Prelude.{ℕ, Bool, false, cond, not, ◌&&◌, ◌||◌, List, [], ◌∷◌, ◌++◌, leb, ltb, eqb, length}
use Rattle.rules.specs.Words.{page_size, least_pages}
use Rattle.rules.specs.Words.{most_pages, records, record_size, between, bits, range, every, count}
use Rattle.rules.specs.Answers.{Vcpu}
use Rattle.rules.specs.Machine.{Lent, N, owner, plain, calling_area, monitor, pool_free, pool_in_use, vmsa_area, valid, permitted, table_byte}
use Rattle.rules.specs.Machine.{fields, is_live, holds, needs_page, record_at, vcpu, startup}

-- what outcome 3 names in a live record: "VMPL outside 1 to 3 or a page (the pool page if held) at or above N"
unfoldable pub bad_names : ℕ → List ℕ → Bool
bad_names n r =
    let v : Vcpu = fields r in
    not (between 1 3 v.vmpl) || leb n v.vmsa || leb n v.calling || holds r && leb n v.pool

-- and in any: "a live, running or holding byte above 1; a live record with .."
unfoldable pub bad_record : ℕ → List ℕ → Bool
bad_record n r = ltb 1 (fields r).live || ltb 1 (fields r).running || ltb 1 (fields r).holding || is_live r && bad_names n r

-- the owners that live records claim for page p: "the pages that live records name as VMSA, calling page and held pool page"
unfoldable pub claim : List ℕ → ℕ → List ℕ
claim r p =
    let v : Vcpu = fields r in
    let say : Bool → ℕ → List ℕ = λ says o. cond (is_live r && says) (o ∷ []) [] in
    say (eqb v.vmsa p) vmsa_area ++ say (eqb v.calling p) calling_area ++ say (holds r && eqb v.pool p) pool_in_use

unfoldable pub claims : List (List ℕ) → ℕ → List ℕ
claims [] p = []
claims (r ∷ rs) p = claim r p ++ claims rs p

-- "Owners 5, 1 and 4 stand on exactly the pages that live records name .., each named once; 6 and 7 don't occur"
unfoldable pub agrees : List ℕ → ℕ → Bool
agrees [] o = eqb o plain || eqb o monitor || eqb o pool_free
agrees (c ∷ []) o = eqb o c
agrees (c ∷ d ∷ ds) o = false

-- "Owners 2 to 5 and invalid pages carry no permission; valid plain and calling pages carry the startup's VMPL"
unfoldable pub well_permitted : ℕ → ℕ → Bool
well_permitted c b = cond (valid b && leb (owner b) calling_area) (permitted c b) (eqb (bits 6 4 b) 0)

-- the fault of page p: 1 owner and sheet disagree, 2 validity ("Pages that aren't plain are valid"), 3 permission; 0 none
unfoldable pub page_fault : Lent → ℕ → ℕ
page_fault m p =
    let b : ℕ = table_byte m p in
    cond (not (agrees (claims m.sheet p) (owner b))) 1
    (cond (not (eqb (owner b) plain) && not (valid b)) 2
    (cond (not (well_permitted (startup m).vmpl b)) 3 0))

-- what is wrong with a live record beyond what outcome 3 names. "A live record from 4 up holds a pool page, 0 to 3 never do"; the layout,
-- "0 if none held", "zeros", "record 0 only, else 0"; "Live APIC IDs differ, and no live VMPL is below the startup's"
unfoldable pub live_fault : Lent → ℕ → Bool
live_fault m i =
    let v : Vcpu = vcpu m i in
    not (eqb v.holding (cond (needs_page i) 1 0))
    || eqb v.holding 0 && not (eqb v.pool 0)
    || not (eqb v.spare 0)
    || not (eqb i 0) && not (eqb v.features 0)
    || not (eqb (count (λ r. is_live r && eqb (fields r).apic v.apic) m.sheet) 1)
    || ltb v.vmpl (startup m).vmpl

-- "The sheet holds nothing that outcome 3 names and keeps the layout above. Record 0 is live"; "other records are zeros"
unfoldable pub record_fault : Lent → ℕ → Bool
record_fault m i =
    let r : List ℕ = record_at m i in
    bad_record (N m) r || cond (is_live r) (live_fault m i) (eqb i 0 || not (every (eqb 0) r))

-- the sizes of pages and records, since outcome 3 names them; those of the lent bytes are tested in Flat
unfoldable pub table_sized : Lent → Bool
table_sized m =
    between least_pages most_pages (N m) && eqb (length m.sheet) records && every (λ r. eqb (length r) record_size) m.sheet

unfoldable pub pages_sized : Lent → Bool
pages_sized m = eqb (length m.memory) (N m) && every (λ page. eqb (length page) page_size) m.memory

unfoldable pub sound : Lent → Bool
sound m =
    table_sized m && pages_sized m
    && every (λ p. eqb (page_fault m p) 0) (range 0 (N m))
    && every (λ i. not (record_fault m i)) (range 0 records)
