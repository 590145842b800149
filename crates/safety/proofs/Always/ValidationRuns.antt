-- Runs of Pvalidate: an entry that the index has passed, with wish 1 and bit 3 clear, covers no page that was valid when the run came to it; and why a page is
-- not. Of every machine: where the list's page is short or missing, the stored index reads as no more than it is.
use mathlib.Core.Path.{◌≡◌, refl, sym, ◌∙◌, ap}
use mathlib.Core.Logic.{◌⊎◌, inl, inr}
use mathlib.Core.Bool.{Bool, true, false, not, true≢false}
use mathlib.Core.List.{List, []}
use Prim.Native.Nat.{ℕ, zero, suc, ◌+◌, ◌/◌, ◌%◌, ◌<◌, ◌≤◌}
use native.Mathlib.Omega.{arith}
use lib.Dec.{eqb, ltb}
use lib.ListN.{length, get_or, set, get_or-eq_default}
use lib.Seq.{sets, set_out, get_or-set_same}
use borrow.Author.Tests.{eqb-true, eqb-false, ltb-true, ltb-false}
use Rattle.std.specs.Prelude.{Result, Ok, Err}
use Rattle.rules.specs.declared.Entry.{Entry}
use Rattle.rules.specs.declared.Refusal.{Refusal}
use Rattle.rules.specs.declared.ListCall.TheVariants.{Pvalidate}
use Rattle.rules.specs.declared.Wish.{Wish}
use Rattle.rules.specs.declared.Wish.TheVariants.{Valid}
use Rattle.rules.specs.Answers.{Code, reads, Answered}
use Rattle.rules.specs.Words.{bit, little, number, range, exists}
use Rattle.rules.specs.Machine.{Lent, N, below, page_of, offset_of, page_at, zeros, valid, table_byte, vcpu}
use Rattle.rules.specs.Lists.{in_list, list_next, list_entry, store_index, covered, coverable, read_entry, wished, carry_out, carry_out_all}
use Rattle.rules.specs.Lists.{after_entry, run}
use Rattle.laws.proofs.Ranges.{by_test, rising_range}
use Rattle.laws.proofs.Counts.{table_byte_each}
use Rattle.laws.proofs.Numbers.{getD_sets_elsewhere, number_zeros}
use Rattle.laws.proofs.TableByte.{byte·simp}
use Rattle.safety.specs.Terms.{covers, covers_valid, Uncovered, InvalidBy, on_entry, by_entry}
use Rattle.safety.specs.Statements.{ValidatedOnce}
use Rattle.safety.proofs.Small.{every_not_exists, among}
use Rattle.safety.proofs.Effects.{page_written, page_out, carry_out_table}
use Rattle.safety.proofs.Entries.{wish_of, entry_read, entry_kept}
use Rattle.safety.proofs.Always.SecondValidation.{covers_listed, covers_range, validated_once}
use Rattle.safety.proofs.Always.PassedRuns.{uncovered_more, uncovered_left}

-- ---- the stored index

-- a number that is set reads as no more, and past the end as 0
set_at_most : (l : List ℕ) (i v : ℕ) → get_or (set l i v) i 0 ≤ v
set_at_most l i v =
    by_test (ltb i (length l))
    (λ t. omega (arith, get_or-set_same l i v 0 (ltb-true i (length l) t)))
    (λ t. let out = ltb-false i (length l) t in
    omega (arith, ap (λ x. get_or x i 0) (set_out l i v out), get_or-eq_default l 0 out))

-- so does a number in bytes
written_at_most : (w : ℕ) (l : List ℕ) (at n : ℕ) → number w (sets l at (little w n)) at ≤ n
unfolding number little
written_at_most zero l at n = omega arith
written_at_most (suc w) l at n =
    let low = set_at_most l at (n % 256) in
    let same = getD_sets_elsewhere (set l at (n % 256)) (suc at) (little w (n / 256)) at 0 (inl (omega arith)) in
    let high = written_at_most w (set l at (n % 256)) (suc at) (n / 256) in
    omega (arith, low, same, high)

-- a page past the end of memory reads as zeros
number_past : (w at p : ℕ) (m : Lent) → length m.memory ≤ p → number w (page_at m p) at ≡ 0
unfolding page_at zeros
number_past w at p m out = rw (get_or-eq_default m.memory [] out) (number_zeros w 0 at)

-- an index reads as no more than what was stored
stored_at_most : (k rcx : ℕ) (m : Lent) → list_next rcx (store_index k rcx m) ≤ k
unfolding list_next in_list store_index
stored_at_most k rcx m =
    let p = page_of rcx in
    let at = offset_of rcx + 2 in
    by_test (ltb p (length m.memory))
    (λ t. rw (page_written p at (little 2 k) m (ltb-true p (length m.memory) t)) (written_at_most 2 (page_at m p) at k))
    (λ t. let out = ltb-false p (length m.memory) t in
    rw (page_out p at (little 2 k) m p out) (omega (arith, number_past 2 at p m out)))

-- ---- one entry

-- a byte that is made valid is so
wished_valid : (vmpl b : ℕ) → valid (wished Valid vmpl b) ≡ true
unfolding wished
wished_valid vmpl b = simp byte·simp

module _ (vmpl rcx e first n : ℕ) (wish : Wish) (m : Lent) (clean : read_entry Pvalidate vmpl rcx e m ≡ reads first n wish) (p : ℕ)
    (two : bit 2 e ≡ true) (covering : covers e p ≡ true) where
  listed : exists (eqb p) (range first n) ≡ true
  listed = sym (covers_range (entry_read Pvalidate vmpl rcx e first n wish m clean) p) ∙ covering

  inside : p < N m
  unfolding coverable below
  inside =
      let told = entry_read Pvalidate vmpl rcx e first n wish m clean in
      by_test (ltb p (N m)) (ltb-true p (N m))
      (λ t. absurd (true≢false (sym (rw t at (among (coverable vmpl rcx m) p (range first n) told.passed listed)))))

  -- an entry with wish 1 makes the pages that it covers valid
  validated : valid (table_byte (carry_out_all wish vmpl first n m) p) ≡ true
  unfolding carry_out_all wish_of N
  validated =
      let told = entry_read Pvalidate vmpl rcx e first n wish m clean in
      let wishes : wish ≡ Valid = sym told.wishes ∙ rw two in
      rw (wishes, table_byte_each (wished Valid vmpl) (carry_out Valid vmpl) (carry_out_table Valid vmpl) (rising_range first n) m p listed inside)
      (wished_valid vmpl (table_byte m p))

  -- and has bit 3 if one was
  excused_by_bit : valid (table_byte m p) ≡ true → bit 3 e ≡ true
  unfolding covers_valid ValidatedOnce
  excused_by_bit was =
      by_test (bit 3 e) (λ t. t) (λ t.
      let test : ℕ → Bool = λ q. valid (table_byte m q) in
      let none = every_not_exists test (covered e) ∙ ap not (validated_once vmpl rcx e first n wish m two t clean) in
      absurd (true≢false (sym (rw was at (among (λ q. not (test q)) p (covered e) none (sym (covers_listed e p) ∙ covering))))))

-- ---- a run

-- the reason still holds after an entry that does not cover the page
still_invalid : (k p rcx : ℕ) (m : Lent) → covers (list_entry k rcx m) p ≡ false → InvalidBy k p rcx m → InvalidBy (suc k) p rcx m
still_invalid k p rcx m away (on_entry was none) = on_entry was (uncovered_more (list_next rcx m) k p rcx m none away)
still_invalid k p rcx m away (by_entry j from up wish_0 covering none) =
    by_entry j from (omega arith) wish_0 covering (uncovered_more (suc j) k p rcx m none away)

-- an entry with wish 0 is one
just_invalidated : (k p rcx : ℕ) (m : Lent) → list_next rcx m ≤ k → bit 2 (list_entry k rcx m) ≡ false → covers (list_entry k rcx m) p ≡ true
    → InvalidBy (suc k) p rcx m
unfolding Uncovered
just_invalidated k p rcx m low wish_0 covering = by_entry k low (omega arith) wish_0 covering (λ j from up. absurd (omega arith))

module _ (caller rcx p : ℕ) (m : Lent) where
  -- the call has come to entry k, with this machine: the entries are as they were, and a page that is not valid has its reason
  pub record Come (k : ℕ) (now : Lent) : Type 0 where
    pub entries : (j : ℕ) → list_entry j rcx now ≡ list_entry j rcx m
    pub why : valid (table_byte now p) ≡ false → InvalidBy k p rcx m

  -- entry i, once the index has passed it, has an excuse
  unfoldable pub Excused : ℕ → Lent → Type 0
  Excused i after =
      list_next rcx m ≤ i → i < list_next rcx after → bit 2 (list_entry i rcx m) ≡ true → covers (list_entry i rcx m) p ≡ true
      → (bit 3 (list_entry i rcx m) ≡ true) ⊎ InvalidBy i p rcx m

  -- on entry
  pub come : Come (list_next rcx m) m
  unfolding Uncovered
  come = record { entries = λ j. refl; why = λ was. on_entry was (λ j from up. absurd (omega arith)) }

  -- where the index is no further than i
  stopped : (k i : ℕ) (now : Lent) → k ≤ i → Excused i (store_index k rcx now)
  unfolding Excused
  stopped k i now up from passed = absurd (omega (arith, stored_at_most k rcx now))

  module _ (k first n : ℕ) (wish : Wish) (now : Lent) (low : list_next rcx m ≤ k) (h : Come k now)
      (clean : read_entry Pvalidate (vcpu now caller).vmpl rcx (list_entry k rcx now) now ≡ reads first n wish) where
    abbrev then : Lent
    then = carry_out_all wish (vcpu now caller).vmpl first n now

    -- the page after entry k
    why_then : valid (table_byte then p) ≡ false → InvalidBy (suc k) p rcx m
    why_then is =
        let e = list_entry k rcx now in
        by_test (covers e p)
        (λ t. by_test (bit 2 e)
        (λ two. absurd (true≢false (sym (validated _ rcx e first n wish now clean p two t) ∙ is)))
        (λ two. just_invalidated k p rcx m low (rw (h.entries k) at two) (rw (h.entries k) at t)))
        (λ t. still_invalid k p rcx m (rw (h.entries k) at t)
        (h.why (sym (ap valid (uncovered_left Pvalidate _ rcx e first n wish now clean p t).byte) ∙ is)))

    come_on : Come (suc k) then
    come_on =
        record {
          entries = λ j. entry_kept Pvalidate _ rcx (list_entry k rcx now) first n wish now clean j ∙ h.entries j;
          why = why_then;
        }

    -- entry k itself
    here : (after : Lent) → Excused k after
    unfolding Excused
    here after from passed two covering =
        by_test (valid (table_byte now p))
        (λ was. inl (rw (h.entries k) at (excused_by_bit _ rcx (list_entry k rcx now) first n wish now clean p
        (rw (h.entries k) two) (rw (h.entries k) covering) was)))
        (λ was. inr (h.why was))

  entry_excused : (x : Result Entry Refusal) (k i : ℕ) (go_on : Lent → Answered Code Lent) (now : Lent)
      → read_entry Pvalidate (vcpu now caller).vmpl rcx (list_entry k rcx now) now ≡ x
      → ((then : Lent) → Come (suc k) then → suc k ≤ i → Excused i (go_on then).after)
      → list_next rcx m ≤ k → Come k now → k ≤ i → Excused i (after_entry x caller rcx k go_on now).after
  unfolding after_entry
  entry_excused (Ok entry) k i go_on now is rest low h up =
      by_test (eqb i k)
      (λ t. rw (eqb-true i k t) (here k entry.first entry.count entry.wish now low h is _))
      (λ t. rest _ (come_on k entry.first entry.count entry.wish now low h is) (omega (arith, eqb-false i k t)))
  entry_excused (Err code) k i go_on now is rest low h up = stopped _ i now (omega arith)

  -- a run from entry k on, of any number of entries
  pub run_excused : (todo k i : ℕ) (now : Lent) → list_next rcx m ≤ k → Come k now → k ≤ i → Excused i (run Pvalidate caller rcx todo k now).after
  unfolding run
  run_excused zero k i now low h up = stopped _ i now (omega arith)
  run_excused (suc todo) k i now low h up =
      entry_excused (read_entry Pvalidate (vcpu now caller).vmpl rcx (list_entry k rcx now) now) k i (run Pvalidate caller rcx todo (suc k)) now refl
      (λ then g. run_excused todo (suc k) i then (omega arith) g) low h up
