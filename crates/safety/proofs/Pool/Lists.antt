-- Pvalidate leaves the pool's number of pages, and Deposit adds the pages of the entries that its index passes.
use mathlib.Core.Path.{◌≡◌, refl, sym, ◌∙◌, ap, ap₂}
use mathlib.Core.Bool.{true, false, cond}
use mathlib.Core.List.{List, [], ◌∷◌}
use Prim.Native.Nat.{ℕ, zero, suc, ◌+◌, ◌-◌, ◌<◌, ◌≤◌}
use native.Mathlib.Omega.{arith}
use lib.Dec.{eqb}
use Rattle.std.specs.Prelude.{Result, Ok, Err}
use Rattle.rules.specs.Words.{large, little, range, bit, bits}
use Rattle.rules.specs.Answers.{Code, Answered}
use Rattle.rules.specs.declared.Entry.{Entry}
use Rattle.rules.specs.declared.Refusal.{Refusal}
use Rattle.rules.specs.declared.ListCall.TheVariants.{Pvalidate, Deposit}
use Rattle.rules.specs.declared.Wish.{Wish}
use Rattle.rules.specs.declared.Wish.TheVariants.{Pool}
use Rattle.rules.specs.Machine.{Lent, N, page_of, offset_of, page_at, write, written, with_memory, owner, plain, table_byte, change, revoke, vcpu}
use Rattle.rules.specs.Lists.{in_list, list_entry, store_index, entry_pages, read_entry, wished, cleared, carry_out, carry_out_all}
use Rattle.rules.specs.Lists.{after_entry, run, list_call}
use Rattle.rules.specs.Runs.{in_pool, pool, pages_listed}
use Rattle.laws.proofs.Ranges.{by_test, each_same}
use Rattle.laws.proofs.Counts.{count_range_up}
use Rattle.laws.proofs.TableByte.{byte·simp, owner_own}
use Rattle.laws.proofs.Change.{change_puts}
use Rattle.safety.proofs.Effects.{carry_out_table, entry_sheet, carried_puts}
use Rattle.safety.proofs.Entries.{wish_of, fits_plain, Read, entry_read, within_keeps}
use Rattle.safety.proofs.Checks.{past_list}
use Rattle.safety.proofs.Pool.Counts.{pooled, in_pool_owner, pool_counts, pool_table, pool_write, pool_puts}

-- a stored index leaves the pool
pool_store_index : (k rcx : ℕ) (m : Lent) → pool (store_index k rcx m) ≡ pool m
unfolding store_index
pool_store_index k rcx m = pool_write _ _ _ m

-- ---- Pvalidate

-- a wish that leaves the owner leaves the pool
carry_out_pool : (w : Wish) (vmpl first n : ℕ) → ((b : ℕ) → owner (wished w vmpl b) ≡ owner b) → (m : Lent)
    → pool (carry_out_all w vmpl first n m) ≡ pool m
unfolding carry_out_all
carry_out_pool w vmpl first n keeps m =
    each_same pool (carry_out w vmpl)
    (λ p m. pool_table (change (wished w vmpl) p m) (carry_out w vmpl p m) (carry_out_table w vmpl p m)
    ∙ pool_puts (change_puts (wished w vmpl) p m)
    (in_pool_owner _ _ (keeps (table_byte m p)) ∙ sym (in_pool_owner (table_byte m p) _ refl))) (range first n) m

-- Pvalidate's wishes do
keeps_owner : (vmpl e b : ℕ) → owner (wished (wish_of Pvalidate e) vmpl b) ≡ owner b
unfolding wished wish_of
keeps_owner vmpl e b = by_test (bit 2 e) (λ t. rw t (simp byte·simp)) (λ t. rw t (simp byte·simp))

-- Pvalidate
pub pvalidate_pool : (caller rcx budget : ℕ) (m : Lent) → pool (list_call budget Pvalidate caller rcx m).after ≡ pool m
pvalidate_pool caller rcx budget m =
    let Same : Lent → Type 0 = λ now. pool now ≡ pool m in
    past_list budget Pvalidate caller rcx m Same refl (λ page.
    within_keeps Pvalidate caller rcx Same
    (record {
      stored = λ k now h. pool_store_index k rcx now ∙ h;
      carried = λ e first n wish now h r.
          carry_out_pool wish (vcpu now caller).vmpl first n (rw (← r.wishes) (keeps_owner (vcpu now caller).vmpl e)) now ∙ h;
    }) budget m refl)

-- ---- Deposit

-- what a run of Deposit from index k on, of at most `todo` entries, leaves: the index `to`, written in the list, and the pages of the entries that it passed
pub record Deposited (rcx todo k : ℕ) (m after : Lent) : Type 0 where
  pub to : ℕ
  pub least : k ≤ to
  pub most : to ≤ k + todo
  pub memory : after.memory ≡ (store_index to rcx m).memory
  pub sheet : after.sheet ≡ m.sheet
  pub counted : pool after ≡ pool m + pages_listed rcx m (range k (to - k))

-- the entries are read from memory
entry_same : (k rcx : ℕ) (m m' : Lent) → m'.memory ≡ m.memory → list_entry k rcx m' ≡ list_entry k rcx m
unfolding list_entry in_list page_at
entry_same k rcx m m' e = rw e

pages_same : (rcx : ℕ) (m m' : Lent) → m'.memory ≡ m.memory → (ks : List ℕ) → pages_listed rcx m' ks ≡ pages_listed rcx m ks
unfolding pages_listed
pages_same rcx m m' e [] = refl
pages_same rcx m m' e (k ∷ ks) = ap₂ (λ (a b : ℕ). cond (eqb (bits 1 0 a) 0) 1 512 + b) (entry_same k rcx m m' e) (pages_same rcx m m' e ks)

-- an entry's pages, in numbers
entry_counts : (e : ℕ) → cond (eqb (bits 1 0 e) 0) 1 512 ≡ entry_pages e
unfolding entry_pages large
entry_counts e = refl

-- the first entry, and the rest
pages_first : (rcx k to : ℕ) (m : Lent) → k < to
    → pages_listed rcx m (range k (to - k)) ≡ entry_pages (list_entry k rcx m) + pages_listed rcx m (range (suc k) (to - suc k))
unfolding pages_listed range
pages_first rcx k to m h = let longer : to - k ≡ suc (to - suc k) = omega arith in rw (longer, entry_counts)

-- no entries
pub pages_none : (rcx k : ℕ) (m : Lent) → pages_listed rcx m (range k (k - k)) ≡ 0
unfolding pages_listed range
pages_none rcx k m = let none : k - k ≡ 0 = omega arith in rw none

wished_pool : (vmpl b : ℕ) → in_pool (wished Pool vmpl b) ≡ true
unfolding wished pooled
wished_pool vmpl b = in_pool_owner (wished Pool vmpl b) 3 (owner_own 3 (revoke b) refl)

plain_out : (b : ℕ) → owner b ≡ plain → in_pool b ≡ false
unfolding pooled
plain_out b e = in_pool_owner b 0 e

module _ (vmpl first n : ℕ) (m : Lent) where
  -- a carried out entry leaves memory
  carried_memory : (carry_out_all Pool vmpl first n m).memory ≡ m.memory
  unfolding carry_out_all cleared
  carried_memory = each_same (λ m. m.memory) (carry_out Pool vmpl) (λ p m. (carried_puts Pool vmpl p m).memory) (range first n) m

  -- and adds its pages
  carried_pool : first + n ≤ N m → ((p : ℕ) → first ≤ p → p < first + n → owner (table_byte m p) ≡ plain)
      → pool (carry_out_all Pool vmpl first n m) ≡ pool m + n
  unfolding carry_out_all N
  carried_pool h plains =
      rw (pool_counts m, pool_counts (carry_out_all Pool vmpl first n m))
      (count_range_up (wished Pool vmpl) (carry_out Pool vmpl) (carry_out_table Pool vmpl) first n m in_pool h
      (λ p l b. plain_out (table_byte m p) (plains p l b)) (λ p l b. wished_pool vmpl (table_byte m p)))

-- where each page of a range is below N, so is its end
range_below : (m : Lent) (first n : ℕ) → ((p : ℕ) → first ≤ p → p < first + suc n → p < N m) → first + suc n ≤ N m
range_below m first n h = omega (arith, h (first + n) (omega arith) (omega arith))

entry_some : (e : ℕ) → (n : ℕ) × (entry_pages e ≡ suc n)
unfolding entry_pages large
entry_some e = by_test (eqb (bits 1 0 e) 0) (λ t. rw t (0, refl)) (λ t. rw t (511, refl))

module _ (caller rcx : ℕ) where
  stopped : (todo k : ℕ) (m : Lent) → Deposited rcx todo k m (store_index k rcx m)
  unfolding store_index write with_memory pages_listed range
  stopped todo k m =
      record {
        to = k;
        least = omega arith;
        most = omega arith;
        memory = refl;
        sheet = refl;
        counted = omega (arith, pages_none rcx k m, pool_store_index k rcx m);
      }

  -- an entry, and what comes after it
  module _ (e todo k : ℕ) (go_on : Lent → Answered Code Lent) (rest : (m : Lent) → Deposited rcx todo (suc k) m (go_on m).after)
      (m : Lent) (is : list_entry k rcx m ≡ e) where
    goes_on : (vmpl first n : ℕ) (wish : Wish) → Read Deposit vmpl rcx e first n wish m
        → Deposited rcx (suc todo) k m (go_on (carry_out_all wish vmpl first n m)).after
    unfolding store_index write with_memory wish_of
    goes_on vmpl first n wish r =
        let then = carry_out_all Pool vmpl first n m in
        let d = rest then in
        let k_to : k < d.to = d.least in
        let some = entry_some e in
        let size : n ≡ suc some.0 = sym r.many ∙ some.1 in
        let inside : first + n ≤ N m = rw size (range_below m first some.0 (λ p l h. (r.fit p l (rw size h)).0)) in
        let grown = carried_pool vmpl first n m inside (λ p l h. fits_plain wish (table_byte m p) (r.fit p l h).1) in
        let same = pages_same rcx m then (carried_memory vmpl first n m) (range (suc k) (d.to - suc k)) in
        let split = rw (is, r.many) at (pages_first rcx k d.to m k_to) in
        rw (← r.wishes)
        record {
          to = d.to;
          least = omega arith;
          most = omega (arith, d.most);
          memory = d.memory ∙ ap (written (page_of rcx) (offset_of rcx + 2) (little 2 d.to)) (carried_memory vmpl first n m);
          sheet = d.sheet ∙ entry_sheet Pool vmpl first n m;
          counted = omega (arith, d.counted);
        }

    deposit_entry : (x : Result Entry Refusal) → read_entry Deposit (vcpu m caller).vmpl rcx e m ≡ x
        → Deposited rcx (suc todo) k m (after_entry x caller rcx k go_on m).after
    unfolding after_entry
    deposit_entry (Ok entry) told = goes_on _ entry.first entry.count entry.wish (entry_read Deposit _ rcx e entry.first entry.count entry.wish m told)
    deposit_entry (Err code) told = stopped (suc todo) k m

  -- a run of Deposit
  pub run_deposits : (todo k : ℕ) (m : Lent) → Deposited rcx todo k m (run Deposit caller rcx todo k m).after
  unfolding run
  run_deposits zero k m = stopped 0 k m
  run_deposits (suc todo) k m =
      deposit_entry (list_entry k rcx m) todo k (run Deposit caller rcx todo (suc k)) (run_deposits todo (suc k)) m refl
      (read_entry Deposit (vcpu m caller).vmpl rcx (list_entry k rcx m) m) refl
