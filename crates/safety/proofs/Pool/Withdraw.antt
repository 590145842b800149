-- Withdraw: the pool shrinks by the pages given back, their number stands in the first two bytes of the list, and the list tells each of them.
use mathlib.Core.Path.{◌≡◌, refl, sym, ◌∙◌, ap}
use mathlib.Core.Bool.{true, false}
use mathlib.Core.Logic.{inl}
use mathlib.Core.List.{List, [], ◌∷◌}
use Prim.Native.Nat.{ℕ, zero, suc, ◌+◌, ◌-◌, ◌*◌, ◌/◌, ◌%◌, ◌^◌, ◌<◌, ◌≤◌}
use native.Mathlib.Omega.{arith}
use native.Mathlib.Nat.{add-zero, zero-add}
use lib.Dec.{eqb}
use lib.ListN.{length, get_or, length-take}
use lib.Seq.{sets, length-sets}
use borrow.Author.Tests.{eqb-true, eq-eqb}
use Rattle.rules.specs.Words.{page_size, most_pages, little, number, range, exists, places, each}
use Rattle.rules.specs.Machine.{Lent, N, page_of, offset_of, page_at, write, plain, table_byte, own, grant}
use Rattle.rules.specs.Lists.{in_list, list_count, list_entry}
use Rattle.rules.specs.Calls.{is_free, withdrawn_pages, give_back, gpas, withdrawn}
use Rattle.rules.specs.Runs.{in_pool, pool}
use Rattle.laws.proofs.Ranges.{length_range, getD_range, exists→, →exists, →absent, rising→within}
use Rattle.laws.proofs.Numbers.{length_little, number_written, number_elsewhere}
use Rattle.laws.proofs.Widths.{sets_append}
use Rattle.laws.proofs.Counts.{count_each_down}
use Rattle.laws.proofs.TableByte.{owner_own, owner_grant}
use Rattle.safety.specs.Terms.{tells_page}
use Rattle.safety.proofs.Small.{every_weaker}
use Rattle.safety.proofs.Effects.{give_back_table, given_memory, memory_written, page_written}
use Rattle.safety.proofs.Checks.{free_owner, withdrawn_rising, withdrawn_free}
use Rattle.safety.proofs.Pool.Counts.{pooled, in_pool_owner, pool_counts, pool_write}
use Rattle.safety.proofs.Pool.Bytes.{in_list_write, in_list_written, offset_below}

-- ---- what the list tells

-- page p is told by the list, at this place
pub record Told (p rcx : ℕ) (m : Lent) : Type 0 where
  pub place : ℕ
  pub below : place < list_count rcx m
  pub gpa : list_entry place rcx m ≡ page_size * p

-- so one of the entries below the count tells it
pub told_tells : (p rcx : ℕ) (m : Lent) → Told p rcx m → tells_page p rcx m ≡ true
unfolding tells_page
told_tells p rcx m h =
    let n = list_count rcx m in
    let here : get_or (range 0 n) h.place 0 ≡ h.place = getD_range 0 n h.place 0 h.below ∙ zero-add h.place in
    →exists (λ k. eqb (list_entry k rcx m) (page_size * p)) (range 0 n) h.place 0 (omega (arith, length_range 0 n, h.below))
    (rw here (eq-eqb _ _ h.gpa))

-- gPAs that are written are read
gpas_told : (ps l : List ℕ) (at k : ℕ) → at + 8 * length ps ≤ length l → k < length ps → page_size * get_or ps k 0 < 256 ^ 8
    → number 8 (sets l at (gpas ps)) (at + 8 * k) ≡ page_size * get_or ps k 0
unfolding gpas
gpas_told [] l at k room h fits = absurd (omega arith)
gpas_told (p ∷ ps) l at zero room h fits =
    let one = sets l at (little 8 (page_size * p)) in
    rw (sets_append, length_little, add-zero)
    (number_elsewhere 8 one (at + 8) (gpas ps) at (inl (omega arith)) ∙ number_written 8 l at (page_size * p) (omega arith) fits)
gpas_told (p ∷ ps) l at (suc k) room h fits =
    let one = sets l at (little 8 (page_size * p)) in
    let there : at + 8 * suc k ≡ at + 8 + 8 * k = omega arith in
    let wide = length-sets l at (little 8 (page_size * p)) in
    rw (sets_append, length_little, there) (gpas_told ps one (at + 8) k (omega arith) (omega arith) fits)

-- ---- the pool, and the list

free_in_pool : (b : ℕ) → is_free b ≡ true → in_pool b ≡ true
unfolding pooled
free_in_pool b e = in_pool_owner b 3 (free_owner b e)

given_out : (vmpl b : ℕ) → in_pool (grant vmpl (own plain b)) ≡ false
unfolding pooled
given_out vmpl b = in_pool_owner _ 0 (owner_grant vmpl (own plain b) ∙ owner_own 0 b refl)

module _ (vmpl rcx : ℕ) (m : Lent) where
  -- pages given back leave the pool
  given_pool : pool (each (give_back vmpl) (withdrawn_pages rcx m) m) + length (withdrawn_pages rcx m) ≡ pool m
  unfolding N
  given_pool =
      let f : ℕ → ℕ = λ b. grant vmpl (own plain b) in
      let ps = withdrawn_pages rcx m in
      rw (pool_counts m, pool_counts (each (give_back vmpl) ps m))
      (count_each_down f (give_back vmpl) (give_back_table vmpl) in_pool (withdrawn_rising rcx m) m (omega arith)
      (every_weaker (λ p. is_free (table_byte m p)) (λ p. in_pool (table_byte m p)) ps (λ p. free_in_pool (table_byte m p)) (withdrawn_free rcx m))
      (→absent (λ p. in_pool (f (table_byte m p))) ps 0 (λ i h. given_out vmpl (table_byte m (get_or ps i 0)))))

  -- the pool after Withdraw
  pub withdrawn_pool : pool (withdrawn vmpl rcx m) + length (withdrawn_pages rcx m) ≡ pool m
  unfolding withdrawn
  withdrawn_pool = rw (pool_write, pool_write) given_pool

  page_given : page_at (each (give_back vmpl) (withdrawn_pages rcx m) m) (page_of rcx) ≡ page_at m (page_of rcx)
  unfolding page_at
  page_given = ap (λ pages. get_or pages (page_of rcx) []) (given_memory vmpl (withdrawn_pages rcx m) m)

  -- no more pages than two bytes can count
  withdrawn_few : length (withdrawn_pages rcx m) < 256 ^ 2
  unfolding withdrawn_pages page_size
  withdrawn_few = omega (arith, length-take ((page_size - offset_of rcx - 8) / 8) (places is_free 0 m.table))

  -- and they have room in the page
  withdrawn_room : offset_of rcx % 8 ≡ 0 → offset_of rcx + 8 + 8 * length (withdrawn_pages rcx m) ≤ page_size
  unfolding withdrawn_pages page_size
  withdrawn_room e = omega (arith, length-take ((page_size - offset_of rcx - 8) / 8) (places is_free 0 m.table), offset_below rcx)

  -- the count is read where it was written
  pub withdrawn_count : page_of rcx < length m.memory → offset_of rcx + 2 ≤ length (page_at m (page_of rcx))
      → in_list 2 0 rcx (withdrawn vmpl rcx m) ≡ length (withdrawn_pages rcx m)
  unfolding withdrawn
  withdrawn_count h k =
      let ps = withdrawn_pages rcx m in
      let p = page_of rcx in
      let given = each (give_back vmpl) ps m in
      let counted = write p (offset_of rcx) (little 2 (length ps)) given in
      in_list_write p (offset_of rcx + 8) (gpas ps) counted 2 0 rcx (λ e. inl (omega arith))
      ∙ in_list_written 2 0 (offset_of rcx) (length ps) rcx given (omega arith) (rw (given_memory vmpl ps m) h) (rw page_given k) withdrawn_few

  -- and so is the gPA of each page that is given back
  withdrawn_gpa : page_of rcx < length m.memory → length (page_at m (page_of rcx)) ≡ page_size → offset_of rcx % 8 ≡ 0
      → (k : ℕ) → k < length (withdrawn_pages rcx m) → page_size * get_or (withdrawn_pages rcx m) k 0 < 256 ^ 8
      → list_entry k rcx (withdrawn vmpl rcx m) ≡ page_size * get_or (withdrawn_pages rcx m) k 0
  unfolding withdrawn list_entry in_list
  withdrawn_gpa h long even k below fits =
      let ps = withdrawn_pages rcx m in
      let p = page_of rcx in
      let at = offset_of rcx in
      let given = each (give_back vmpl) ps m in
      let counted = write p at (little 2 (length ps)) given in
      let there : at + (8 + 8 * k) ≡ at + 8 + 8 * k = omega arith in
      let first : p < length given.memory = rw (given_memory vmpl ps m) h in
      let second : p < length counted.memory = rw (memory_written p at (little 2 (length ps)) given) first in
      let wide : length (page_at counted p) ≡ page_size
      = rw (page_written p at (little 2 (length ps)) given first, length-sets (page_at given p) at (little 2 (length ps)), page_given) long in
      rw (page_written p (at + 8) (gpas ps) counted second, there)
      (gpas_told ps (page_at counted p) (at + 8) k (omega (arith, wide, withdrawn_room even)) below fits)

  -- a page that is given back is told
  pub withdrawn_told : (p : ℕ) → page_of rcx < length m.memory → length (page_at m (page_of rcx)) ≡ page_size → offset_of rcx % 8 ≡ 0
      → N m ≤ most_pages → exists (eqb p) (withdrawn_pages rcx m) ≡ true → Told p rcx (withdrawn vmpl rcx m)
  unfolding list_count page_size most_pages
  withdrawn_told p h long even few e =
      let ps = withdrawn_pages rcx m in
      let found = exists→ (eqb p) ps 0 e in
      let is : p ≡ get_or ps found.0 0 = eqb-true p _ found.2 in
      let inside : get_or ps found.0 0 < N m = (rising→within found.0 0 (withdrawn_rising rcx m) found.1).1 in
      record {
        place = found.0;
        below = rw (withdrawn_count h (omega (arith, long, withdrawn_room even))) found.1;
        gpa = withdrawn_gpa h long even found.0 found.1 (omega arith) ∙ ap (λ (q : ℕ). page_size * q) (sym is);
      }
