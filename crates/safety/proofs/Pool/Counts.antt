-- The pages of the pool, counted: what a change of one table byte does to their number.
use mathlib.Core.Path.{◌≡◌, refl, sym, ◌∙◌}
use mathlib.Core.Bool.{Bool, ◌||◌}
use mathlib.Core.List.{List}
use Prim.Native.Nat.{ℕ, ◌+◌, ◌<◌}
use native.Mathlib.Omega.{arith}
use lib.Dec.{ltb, eqb}
use borrow.Author.Tests.{ltb-true, ltb-false}
use Rattle.rules.specs.Words.{count}
use Rattle.rules.specs.Machine.{Lent, N, owner, pool_free, pool_in_use, table_byte, change, write, with_memory, amend}
use Rattle.rules.specs.Runs.{in_pool, pool}
use Rattle.laws.proofs.Ranges.{by_test}
use Rattle.laws.proofs.Counts.{one, count_set}
use Rattle.laws.proofs.Change.{Puts, change_puts, puts_out}

-- an owner of the pool's pages
unfoldable pub pooled : ℕ → Bool
pooled o = eqb o pool_free || eqb o pool_in_use

-- a page is of the pool by its owner
pub in_pool_owner : (b o : ℕ) → owner b ≡ o → in_pool b ≡ pooled o
unfolding in_pool pooled
in_pool_owner b o e = rw e

-- the pool is counted in the table
pub pool_counts : (m : Lent) → pool m ≡ count in_pool m.table
unfolding pool
pool_counts m = refl

-- machines of one table have one pool
pub pool_table : (m after : Lent) → after.table ≡ m.table → pool after ≡ pool m
unfolding pool
pool_table m after e = rw e

-- a write to memory leaves the pool
pub pool_write : (p offset : ℕ) (bytes : List ℕ) (m : Lent) → pool (write p offset bytes m) ≡ pool m
unfolding write with_memory pool
pool_write p offset bytes m = refl

-- a change of the sheet leaves the pool
pub pool_amend : (f : List ℕ → List ℕ) (i : ℕ) (m : Lent) → pool (amend f i m) ≡ pool m
unfolding amend pool
pool_amend f i m = refl

module _ {p b : ℕ} {m after : Lent} (h : Puts p b m after) where
  -- one table byte put: less what it added, plus what the new one adds
  pool_put : p < N m → pool after + one (in_pool (table_byte m p)) ≡ pool m + one (in_pool b)
  unfolding table_byte N
  pool_put k = rw (pool_counts m, pool_counts after, h.table) (count_set in_pool m.table p b 0 k)

  -- a byte put that is of the pool if the one before it was, on a page below N or not
  pub pool_puts : in_pool b ≡ in_pool (table_byte m p) → pool after ≡ pool m
  pool_puts e =
      by_test (ltb p (N m))
      (λ t. let k = pool_put (ltb-true p (N m) t) in omega (arith, rw e at k))
      (λ t. pool_table m after (puts_out h (ltb-false p (N m) t)))

-- a change from an owner to an owner, where both or neither are of the pool
pub pool_change : (f : ℕ → ℕ) (p o o' : ℕ) (m : Lent) → owner (table_byte m p) ≡ o → owner (f (table_byte m p)) ≡ o' → pooled o' ≡ pooled o
    → pool (change f p m) ≡ pool m
pool_change f p o o' m before after e =
    pool_puts (change_puts f p m) (in_pool_owner _ o' after ∙ e ∙ sym (in_pool_owner (table_byte m p) o before))
