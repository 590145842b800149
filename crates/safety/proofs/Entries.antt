-- The entries of a list: what one that reads says of its pages, and that a run over the list keeps what each of its entries and the stored index keep.
use mathlib.Core.Path.{◌≡◌, refl, ◌∙◌, ap}
use mathlib.Core.Bool.{Bool, true, false, cond, not, ◌&&◌, and-false, and-eq-true_iff}
use Prim.Native.Nat.{ℕ, zero, suc, ◌+◌, ◌<◌, ◌≤◌}
use native.Mathlib.Omega.{arith}
use lib.Dec.{eqb, ltb}
use borrow.Author.Tests.{eq-eqb, eqb-true, ltb-true}
use Rattle.std.specs.Prelude.{Result, Ok, Err}
use Rattle.rules.specs.declared.Entry.{Entry}
use Rattle.rules.specs.declared.Refusal.{Refusal}
use Rattle.rules.specs.declared.ListCall.{ListCall}
use Rattle.rules.specs.declared.ListCall.TheVariants.{Pvalidate, Deposit}
use Rattle.rules.specs.declared.Wish.{Wish}
use Rattle.rules.specs.declared.Wish.TheVariants.{Invalid, Valid, Pool}
use Rattle.rules.specs.Answers.{Code, reads, Answered}
use Rattle.rules.specs.Words.{bit, range, every}
use Rattle.rules.specs.Machine.{Lent, N, below, page_of, page_at, with_memory, write, owner, valid, table_byte, owned_by, usable, record_at, vcpu}
use Rattle.rules.specs.Lists.{in_list, list_count, list_entry, store_index, entry_first, entry_pages, covered, malformed, coverable}
use Rattle.rules.specs.Lists.{read_covered, read_entry, carry_out, carry_out_all, after_entry, run, run_within}
use Rattle.laws.proofs.Usable.{usable→}
use Rattle.laws.proofs.Ranges.{by_test, every_range→}
use Rattle.safety.proofs.Small.{not_among}
use Rattle.safety.proofs.Effects.{entry_sheet}
use Rattle.safety.proofs.Elsewhere.{carry_elsewhere, each_elsewhere}

-- ---- an entry that reads

-- one that is refused does not
pub unread : {A : Type 0} (code : Refusal) (first n : ℕ) (wish : Wish) → Err code ≡ reads first n wish → A
unread code first n wish e = let z : ◌≡◌ {A = ℕ} 0 1 = cc in absurd (omega arith)

-- what two that read alike tell is the same
same_reading : (first n first' n' : ℕ) (wish wish' : Wish) → reads first n wish ≡ reads first' n' wish' → (first ≡ first') × (n ≡ n') × (wish ≡ wish')
same_reading first n first' n' wish wish' e =
    let same : ◌≡◌ {A = Entry} (record { first = first; count = n; wish = wish }) (record { first = first'; count = n'; wish = wish' }) = cc in
    (ap (λ (x : Entry). x.first) same, ap (λ (x : Entry). x.count) same, ap (λ (x : Entry). x.wish) same)

-- what it wishes
unfoldable pub wish_of : ListCall → ℕ → Wish
wish_of Pvalidate e = cond (bit 2 e) Valid Invalid
wish_of Deposit e = Pool

-- what a page must be for a wish: plain, and valid if it goes to the pool
unfoldable pub fits : Wish → ℕ → Bool
fits Invalid b = eqb (owner b) 0
fits Valid b = eqb (owner b) 0
fits Pool b = eqb (owner b) 0 && valid b

-- a page fit for a wish is plain
pub fits_plain : (wish : Wish) (b : ℕ) → fits wish b ≡ true → owner b ≡ 0
unfolding fits
fits_plain Invalid b f = eqb-true (owner b) 0 f
fits_plain Valid b f = eqb-true (owner b) 0 f
fits_plain Pool b f = eqb-true (owner b) 0 ((and-eq-true_iff (eqb (owner b) 0) (valid b)).0 f).0

-- a page that may be covered is below N and plain
coverable→ : (vmpl rcx : ℕ) (m : Lent) (p : ℕ) → coverable vmpl rcx m p ≡ true → (p < N m) × (owner (table_byte m p) ≡ 0)
unfolding coverable below owned_by
coverable→ vmpl rcx m p e =
    let plain = eqb (owner (table_byte m p)) 0 in
    let both = (and-eq-true_iff (ltb p (N m)) plain).0 ((and-eq-true_iff (ltb p (N m) && plain) (not (eqb p (page_of rcx)))).0 e).0 in
    (ltb-true p (N m) both.0, eqb-true _ _ both.1)

-- what it has told of its range and its wish, and of each page that it covers
pub record Read (call : ListCall) (vmpl rcx e first n : ℕ) (wish : Wish) (m : Lent) : Type 0 where
  pub starts : entry_first e ≡ first
  pub many : entry_pages e ≡ n
  pub wishes : wish_of call e ≡ wish
  pub passed : every (coverable vmpl rcx m) (range first n) ≡ true
  pub fit : (p : ℕ) → first ≤ p → p < first + n → (p < N m) × (fits wish (table_byte m p) ≡ true)

module _ (call : ListCall) (vmpl rcx e first n : ℕ) (wish : Wish) (m : Lent) (h : read_entry call vmpl rcx e m ≡ reads first n wish) where
  passed_both : (every (coverable vmpl rcx m) (covered e) ≡ true) × (read_covered call vmpl e m ≡ reads first n wish)
  unfolding read_entry
  passed_both =
      by_test (malformed call e)
      (λ t. unread _ first n wish (rw t at h))
      (λ t. by_test (every (coverable vmpl rcx m) (covered e))
      (λ u. (u, rw u at (rw t at h)))
      (λ u. unread _ first n wish (rw u at (rw t at h))))

  -- it passed the tests of its form and of its pages
  pub covered_read : read_covered call vmpl e m ≡ reads first n wish
  covered_read = passed_both.1

-- Pvalidate wishes for no pool page
fits_validity : (t : Bool) (b : ℕ) → owner b ≡ 0 → fits (cond t Valid Invalid) b ≡ true
unfolding fits
fits_validity true b e = rw e
fits_validity false b e = rw e

fits_pool : (vmpl : ℕ) (m : Lent) (p : ℕ) → owner (table_byte m p) ≡ 0 → usable vmpl m p ≡ true → fits Pool (table_byte m p) ≡ true
unfolding fits
fits_pool vmpl m p e u = rw (e, (usable→ vmpl m p u).1)

-- its range, its wish, and that each page of the range which is plain is fit for the wish
range_read : (call : ListCall) (vmpl e first n : ℕ) (wish : Wish) (m : Lent) → read_covered call vmpl e m ≡ reads first n wish
    → (entry_first e ≡ first) × (entry_pages e ≡ n) × (wish_of call e ≡ wish)
    × ((p : ℕ) → first ≤ p → p < first + n → owner (table_byte m p) ≡ 0 → fits wish (table_byte m p) ≡ true)
unfolding read_covered wish_of covered
range_read Pvalidate vmpl e first n wish m h =
    let all = every (λ p. valid (table_byte m p)) (range (entry_first e) (entry_pages e)) in
    let none = every (λ p. not (valid (table_byte m p))) (range (entry_first e) (entry_pages e)) in
    by_test (not all && not none)
    (λ t. unread _ first n wish (rw t at h))
    (λ t. by_test (cond (bit 2 e) all none && not (bit 3 e))
    (λ u. unread _ first n wish (rw u at (rw t at h)))
    (λ u.
    let told = same_reading _ _ first n _ wish (rw u at (rw t at h)) in
    (told.0, told.1, told.2, λ p l b o. rw (← told.2) (fits_validity (bit 2 e) (table_byte m p) o))))
range_read Deposit vmpl e first n wish m h =
    let test = usable vmpl m in
    by_test (every test (range (entry_first e) (entry_pages e)))
    (λ t.
    let told = same_reading _ _ first n _ wish (rw t at h) in (
      told.0,
      told.1,
      told.2,
      λ p l b o. rw (← told.2) (fits_pool vmpl m p o (every_range→ test first n (rw (told.0, told.1) at t) p l b)),
    ))
    (λ t. unread _ first n wish (rw t at h))

-- what an entry that reads has told
pub entry_read : (call : ListCall) (vmpl rcx e first n : ℕ) (wish : Wish) (m : Lent) → read_entry call vmpl rcx e m ≡ reads first n wish
    → Read call vmpl rcx e first n wish m
unfolding covered
entry_read call vmpl rcx e first n wish m h =
    let both = passed_both call vmpl rcx e first n wish m h in
    let told = range_read call vmpl e first n wish m both.1 in
    let passed : every (coverable vmpl rcx m) (range first n) ≡ true = rw (told.0, told.1) at both.0 in
    record {
      starts = told.0;
      many = told.1;
      wishes = told.2;
      passed = passed;
      fit = λ p l b.
          let c = coverable→ vmpl rcx m p (every_range→ (coverable vmpl rcx m) first n passed p l b) in
          (c.0, told.3 p l b c.1);
    }

-- ---- the list's page, which an entry that reads does not cover

list_uncoverable : (vmpl rcx : ℕ) (m : Lent) → coverable vmpl rcx m (page_of rcx) ≡ false
unfolding coverable
list_uncoverable vmpl rcx m = simp (eq-eqb (page_of rcx) (page_of rcx) refl, and-false)

module _ (call : ListCall) (vmpl rcx e first n : ℕ) (wish : Wish) (m : Lent) (h : read_entry call vmpl rcx e m ≡ reads first n wish) where
  -- the page is as it was
  pub list_kept : page_at (carry_out_all wish vmpl first n m) (page_of rcx) ≡ page_at m (page_of rcx)
  unfolding carry_out_all
  list_kept =
      (each_elsewhere (carry_out wish vmpl) (page_of rcx) (carry_elsewhere wish vmpl (page_of rcx)) (range first n) m
      (not_among (coverable vmpl rcx m) (page_of rcx) (range first n) (entry_read call vmpl rcx e first n wish m h).passed (list_uncoverable vmpl rcx m))).page

  -- so the list's count
  pub count_kept : list_count rcx (carry_out_all wish vmpl first n m) ≡ list_count rcx m
  unfolding list_count in_list
  count_kept = rw list_kept

  -- and its entries are as they were
  pub entry_kept : (k : ℕ) → list_entry k rcx (carry_out_all wish vmpl first n m) ≡ list_entry k rcx m
  unfolding list_entry in_list
  entry_kept k = rw list_kept

-- an entry reads the same once an index is stored
pub read_stored : (call : ListCall) (caller rcx e k : ℕ) (m : Lent)
    → read_entry call (vcpu (store_index k rcx m) caller).vmpl rcx e (store_index k rcx m) ≡ read_entry call (vcpu m caller).vmpl rcx e m
unfolding read_entry read_covered coverable store_index write with_memory below owned_by usable table_byte vcpu record_at N
read_stored Pvalidate caller rcx e k m = refl
read_stored Deposit caller rcx e k m = refl

-- ---- a run

-- what an entry that is carried out keeps, and a stored index
pub record Keeps (call : ListCall) (caller rcx : ℕ) (P : Lent → Type 0) : Type 0 where
  pub stored : (k : ℕ) (m : Lent) → P m → P (store_index k rcx m)
  pub carried : (e first n : ℕ) (wish : Wish) (m : Lent) → P m → Read call (vcpu m caller).vmpl rcx e first n wish m
      → P (carry_out_all wish (vcpu m caller).vmpl first n m)

module _ (call : ListCall) (caller rcx : ℕ) (P : Lent → Type 0) (keeps : Keeps call caller rcx P) where
  after_keeps : (k : ℕ) (go_on : Lent → Answered Code Lent) (m : Lent) (e : ℕ) (x : Result Entry Refusal) → read_entry call (vcpu m caller).vmpl rcx e m ≡ x
      → ((now : Lent) → P now → P (go_on now).after) → P m → P (after_entry x caller rcx k go_on m).after
  unfolding after_entry
  after_keeps k go_on m e (Ok entry) is goes h =
      goes _ (keeps.carried e entry.first entry.count entry.wish m h (entry_read call (vcpu m caller).vmpl rcx e entry.first entry.count entry.wish m is))
  after_keeps k go_on m e (Err code) is goes h = keeps.stored _ m h

  -- a run of any number of entries keeps it
  pub run_keeps : (todo k : ℕ) (m : Lent) → P m → P (run call caller rcx todo k m).after
  unfolding run
  run_keeps zero k m h = keeps.stored _ m h
  run_keeps (suc todo) k m h =
      after_keeps k (run call caller rcx todo (suc k)) m (list_entry k rcx m) (read_entry call (vcpu m caller).vmpl rcx (list_entry k rcx m) m) refl
      (run_keeps todo (suc k)) h

  -- whatever its budget
  pub within_keeps : (budget : ℕ) (m : Lent) → P m → P (run_within budget call caller rcx m).after
  unfolding run_within
  within_keeps budget m h = run_keeps _ _ m h

-- the sheet is kept
pub run_within_sheet : (budget : ℕ) (call : ListCall) (caller rcx : ℕ) (m : Lent) → (run_within budget call caller rcx m).after.sheet ≡ m.sheet
unfolding store_index write with_memory
run_within_sheet budget call caller rcx m =
    within_keeps call caller rcx (λ now. now.sheet ≡ m.sheet)
    (record { stored = λ k now h. h; carried = λ e first n wish now h r. entry_sheet wish _ first n now ∙ h }) budget m refl
