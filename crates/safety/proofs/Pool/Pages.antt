-- Remap, Create and Delete leave the number of the pool's pages as it was: no page that they change enters the pool or leaves it.
use mathlib.Core.Path.{◌≡◌, refl, sym, ◌∙◌}
use mathlib.Core.Bool.{Bool, true}
use Prim.Native.Nat.{ℕ, ◌<◌}
use lib.Dec.{eqb}
use borrow.Author.Tests.{eqb-true, eqb-false}
use Rattle.rules.specs.Words.{records}
use Rattle.rules.specs.Machine.{Lent, page_of, owner, table_byte, change, own, grant, revoke, vcpu, is_live, holds, needs_page, record_at}
use Rattle.rules.specs.Calls.{remapped, remap, Asked, free_page, created, create, deleted, delete}
use Rattle.rules.specs.Runs.{pool}
use Rattle.laws.proofs.Ranges.{by_test}
use Rattle.laws.proofs.TableByte.{owner_own, owner_grant}
use Rattle.laws.proofs.Change.{change_other}
use Rattle.safety.proofs.Effects.{three_changed, created_table, deleted_table}
use Rattle.safety.proofs.Branches.{on_test}
use Rattle.safety.proofs.Checks.{RemapFit, past_remap, CreateFit, pool_apart, past_create, past_delete}
use Rattle.safety.proofs.Sound.Facts.{Sound}
use Rattle.safety.proofs.Sound.Sizes.{sheet_length}
use Rattle.safety.proofs.Sound.Rows.{vmsa_owned, calling_owned, pool_owned, vmsa_not_calling, vmsa_not_pool, calling_not_pool}
use Rattle.safety.proofs.Pool.Counts.{pooled, pool_table, pool_write, pool_amend, pool_change}

-- ---- Remap

module _ (caller : ℕ) (m : Lent) (s : Sound m) (h : caller < records) (live : is_live (record_at m caller) ≡ true) where
  remapped_pool : (rcx : ℕ) → RemapFit caller rcx m → pool (remapped caller (vcpu m caller).calling (page_of rcx) m) ≡ pool m
  unfolding remapped pooled
  remapped_pool rcx fit =
      let old = (vcpu m caller).calling in
      let new = page_of rcx in
      let was = calling_owned m s caller h live in
      rw (pool_write, pool_write, pool_amend)
      (by_test (eqb old new)
      (λ t. rw t (pool_change (own 1) new 1 1 m (rw (← eqb-true old new t) was) (owner_own 1 _ refl) refl))
      (λ t. rw t
      (let apart : new ≡ old → ⊥ = λ q. eqb-false old new t (sym q) in
      pool_change (own 1) new 0 1 (change (own 0) old m) (rw (change_other (own 0) old m new apart) (fit.owned apart)) (owner_own 1 _ refl) refl
      ∙ pool_change (own 0) old 1 0 m was (owner_own 0 _ refl) refl)))

  -- Remap
  pub remap_pool : (rcx : ℕ) → pool (remap caller rcx m).after ≡ pool m
  remap_pool rcx = past_remap caller rcx m (λ now. pool now ≡ pool m) refl (remapped_pool rcx)

-- ---- three pages of different owners, of which the third alone is of the pool, before and after

-- a page's owner before and after a change
record Moves (f : ℕ → ℕ) (p o o' : ℕ) (m : Lent) : Type 0 where
  before : owner (table_byte m p) ≡ o
  after : (b : ℕ) → owner (f b) ≡ o'
  alike : pooled o' ≡ pooled o

moved : (f : ℕ → ℕ) (p o o' : ℕ) (m now : Lent) → Moves f p o o' m → table_byte now p ≡ table_byte m p → pool (change f p now) ≡ pool now
moved f p o o' m now v same = pool_change f p o o' now (rw same v.before) (v.after (table_byte now p)) v.alike

three_pool : (f g k : ℕ → ℕ) (a b c : ℕ) (t : Bool) (m : Lent) (o o' q q' r r' : ℕ) → Moves f a o o' m → Moves g b q q' m
    → (t ≡ true → Moves k c r r' m) → (a ≡ b → ⊥) → (t ≡ true → (a ≡ c → ⊥) × (b ≡ c → ⊥)) → pool (three_changed f g k a b c t m) ≡ pool m
three_pool f g k a b c t m o o' q q' r r' v w x a_b ab_c =
    let first = change f a m in
    let two : pool (change g b first) ≡ pool m = moved g b q q' m first w (change_other f a m b (λ e. a_b (sym e))) ∙ moved f a o o' m m v refl in
    on_test (λ now. pool now ≡ pool m) t _ _
    (λ e. moved k c r r' m (change g b first) (x e) (change_other g b first c (λ q. (ab_c e).1 (sym q)) ∙ change_other f a m c (λ q. (ab_c e).0 (sym q))) ∙ two)
    (λ e. two)

-- ---- Create

created_pool : (a : Asked) (i : ℕ) (m : Lent) → CreateFit a i m → pool (created a i m) ≡ pool m
unfolding pooled
created_pool a i m fit =
    let v = fit.vmsa.owned in
    let c = fit.calling.owned in
    pool_table _ (created a i m) (created_table a i m)
    ∙ three_pool (λ b. own 5 (revoke b)) (own 1) (own 4) a.vmsa a.calling (free_page m) (needs_page i) m 0 5 0 1 3 4
    (record { before = v; after = λ b. owner_own 5 _ refl; alike = refl }) (record { before = c; after = λ b. owner_own 1 _ refl; alike = refl })
    (λ t. record { before = fit.pool_free t; after = λ b. owner_own 4 _ refl; alike = refl }) fit.differ (pool_apart a i m fit)

-- Create
pub create_pool : (caller rcx rdx r8 : ℕ) (m : Lent) → pool (create caller rcx rdx r8 m).after ≡ pool m
create_pool caller rcx rdx r8 m = past_create caller rcx rdx r8 m (λ now. pool now ≡ pool m) refl (λ fit. created_pool _ _ m fit)

-- ---- Delete

module _ (m : Lent) (s : Sound m) (i : ℕ) (h : i < records) (live : is_live (record_at m i) ≡ true) where
  deleted_pool : (vmpl : ℕ) → pool (deleted vmpl i m) ≡ pool m
  unfolding pooled
  deleted_pool vmpl =
      let v = vcpu m i in
      pool_table _ (deleted vmpl i m) (deleted_table vmpl i m)
      ∙ three_pool (λ b. grant vmpl (own 0 b)) (own 0) (own 3) v.vmsa v.calling v.pool (holds (record_at m i)) m 5 0 1 0 4 3
      (record { before = vmsa_owned m s i h live; after = λ b. owner_grant vmpl (own 0 b) ∙ owner_own 0 b refl; alike = refl })
      (record { before = calling_owned m s i h live; after = λ b. owner_own 0 b refl; alike = refl })
      (λ t. record { before = pool_owned m s i h live t; after = λ b. owner_own 3 b refl; alike = refl })
      (vmsa_not_calling m s i h live) (λ t. (vmsa_not_pool m s i h live t, calling_not_pool m s i h live t))

-- Delete
pub delete_pool : (caller rcx : ℕ) (m : Lent) → Sound m → pool (delete caller rcx m).after ≡ pool m
delete_pool caller rcx m s =
    past_delete caller rcx m (λ now. pool now ≡ pool m) refl (λ fit.
    deleted_pool m s _ (rw (sheet_length m s.tables) at fit.row) fit.live (vcpu m caller).vmpl)
