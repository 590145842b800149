-- Statement 9, no second validation: an entry that validates covered no valid page; if it covers one it is refused; and what it validates is zero.
use mathlib.Core.Path.{◌≡◌, sym, ◌∙◌}
use mathlib.Core.Bool.{Bool, true, cond, ◌&&◌, true≢false, and-eq-true_iff}
use mathlib.Core.List.{List, [], ◌∷◌}
use Prim.Native.Nat.{ℕ, ◌+◌}
use lib.Dec.{eqb, leb, ltb}
use lib.ListN.{length, get_or, set, get_or-eq_default}
use lib.Seq.{get_or-set_same, get_or-set_other, set_out}
use borrow.Author.Tests.{leb-true, ltb-true, ltb-false, le-leb, lt-ltb, eqb-true, eqb-false}
use Rattle.rules.specs.declared.Wish.{Wish}
use Rattle.rules.specs.declared.Wish.TheVariants.{Valid}
use Rattle.rules.specs.declared.ListCall.{ListCall}
use Rattle.rules.specs.declared.ListCall.TheVariants.{Pvalidate}
use Rattle.rules.specs.Words.{page_size, large, bits, range, every, exists, each}
use Rattle.rules.specs.Machine.{Lent, page_at, with_memory, zeros, fill, table_byte, valid, vcpu}
use Rattle.rules.specs.Lists.{entry_first, entry_pages, covered, malformed, coverable, read_covered, read_entry}
use Rattle.rules.specs.Lists.{list_entry, reserved_bits, cleared, carry_out, carry_out_all, after_entry, run}
use Rattle.laws.proofs.Ranges.{by_test, →every-range, exists_range}
use Rattle.laws.proofs.Numbers.{zeros_at}
use Rattle.safety.specs.Terms.{covers, covers_valid, second_code}
use Rattle.safety.specs.Statements.{ValidatedOnce, SecondValidationRefused, ValidatedPagesZero, CarriedOut}
use Rattle.safety.proofs.Small.{every_not_exists, not_among}
use Rattle.safety.proofs.Effects.{carried_puts}
use Rattle.safety.proofs.Entries.{wish_of, unread, covered_read, Read, entry_read}

-- the pages that an entry covers are those of its range
pub covers_listed : (e p : ℕ) → covers e p ≡ exists (eqb p) (covered e)
unfolding covers covered entry_first entry_pages large
covers_listed e p =
    let first = bits 63 12 e in
    let n : ℕ = cond (eqb (bits 1 0 e) 0) 1 512 in
    let test : ℕ → Bool = λ q. leb first q && ltb q (first + n) in
    by_test (test p)
    (λ t. let both = (and-eq-true_iff (leb first p) (ltb p (first + n))).0 t in
    t ∙ sym (exists_range first n p (leb-true first p both.0) (ltb-true p (first + n) both.1)))
    (λ t. t ∙ sym (not_among test p (range first n) (→every-range test first n (λ q l h. rw (le-leb first q l, lt-ltb q (first + n) h))) t))

-- once it is read, those of the range that it told
pub covers_range : {call : ListCall} {vmpl rcx e first n : ℕ} {wish : Wish} {m : Lent} → Read call vmpl rcx e first n wish m
    → (p : ℕ) → covers e p ≡ exists (eqb p) (range first n)
unfolding covered
covers_range {e} told p = rw (told.starts, told.many) at (covers_listed e p)

-- (a) an entry that validates covered no valid page
pub validated_once : ValidatedOnce
unfolding ValidatedOnce covers_valid read_covered
validated_once vmpl rcx e first n wish m two three h =
    let all = every (λ p. valid (table_byte m p)) (covered e) in
    let some = exists (λ p. valid (table_byte m p)) (covered e) in
    let g = rw (two, three, every_not_exists (λ p. valid (table_byte m p)) (covered e)) at (covered_read Pvalidate vmpl rcx e first n wish m h) in
    by_test some
    (λ t. by_test all (λ u. unread _ first n wish (rw (t, u) at g)) (λ u. unread _ first n wish (rw (t, u) at g)))
    (λ t. t)

-- (b) an entry that would validate a valid page is refused
pub second_validation_refused : SecondValidationRefused
unfolding SecondValidationRefused covers_valid second_code run read_entry read_covered after_entry malformed reserved_bits coverable entry_first
second_validation_refused caller rcx todo k m two three some =
    let e = list_entry k rcx m in
    let all = every (λ p. valid (table_byte m p)) (covered e) in
    by_test (malformed Pvalidate e)
    (λ t. rw t)
    (λ t. by_test (every (coverable (vcpu m caller).vmpl rcx m) (covered e))
    (λ u. by_test all
    (λ v. rw (t, u, v, two, three))
    (λ v. rw (t, u, every_not_exists (λ p. valid (table_byte m p)) (covered e), v, some)))
    (λ u. rw (t, u)))

-- a page is zero
Zero : ℕ → List (List ℕ) → Type 0
Zero p pages = (k : ℕ) → get_or (get_or pages p []) k 0 ≡ 0

-- a page filled with zeros is, and so it stays
filled : (p : ℕ) (pages : List (List ℕ)) → Zero p (set pages p (zeros page_size))
unfolding Zero
filled p pages k =
    by_test (ltb p (length pages))
    (λ t. rw (get_or-set_same pages p (zeros page_size) [] (ltb-true p (length pages) t)) (zeros_at page_size k))
    (λ t. let out = ltb-false p (length pages) t in rw (set_out pages p (zeros page_size) out, get_or-eq_default pages [] out))

still : (p q : ℕ) (pages : List (List ℕ)) → Zero p pages → Zero p (set pages q (zeros page_size))
unfolding Zero
still p q pages z =
    by_test (eqb p q)
    (λ t. rw (← eqb-true p q t) (filled p pages))
    (λ t k. rw (get_or-set_other pages q p (zeros page_size) [] (eqb-false p q t)) (z k))

carried : (vmpl p : ℕ) (m : Lent) → (carry_out Valid vmpl p m).memory ≡ set m.memory p (zeros page_size)
unfolding cleared fill with_memory
carried vmpl p m = (carried_puts Valid vmpl p m).memory

all_still : (vmpl p : ℕ) (qs : List ℕ) (m : Lent) → Zero p m.memory → Zero p (each (carry_out Valid vmpl) qs m).memory
unfolding each
all_still vmpl p [] m z = z
all_still vmpl p (q ∷ qs) m z = all_still vmpl p qs (carry_out Valid vmpl q m) (rw carried (still p q m.memory z))

all_filled : (vmpl p : ℕ) (qs : List ℕ) (m : Lent) → exists (eqb p) qs ≡ true → Zero p (each (carry_out Valid vmpl) qs m).memory
unfolding each exists
all_filled vmpl p [] m h = absurd (true≢false (sym h))
all_filled vmpl p (q ∷ qs) m h =
    by_test (eqb p q)
    (λ t. all_still vmpl p qs (carry_out Valid vmpl q m) (rw (carried, ← eqb-true p q t) (filled p m.memory)))
    (λ t. all_filled vmpl p qs (carry_out Valid vmpl q m) (rw t at h))

-- (c) the pages that an entry validates are zero
pub validated_pages_zero : ValidatedPagesZero
unfolding ValidatedPagesZero page_at carry_out_all Zero wish_of
validated_pages_zero vmpl rcx e first n wish m two h p k covering =
    let told = entry_read Pvalidate vmpl rcx e first n wish m h in
    let valid_wish : wish ≡ Valid = sym told.wishes ∙ rw two in
    rw valid_wish (all_filled vmpl p (range first n) m (sym (covers_range told p) ∙ covering) k)

-- an entry that reads is carried out, and the run goes on
pub carried_out : CarriedOut
unfolding CarriedOut run after_entry
carried_out call caller rcx todo k first n wish m h = rw h
