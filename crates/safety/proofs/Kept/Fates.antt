-- What becomes of a page of owner 2 to 5 in one of the calls: it is untouched, or it is a pool page that is taken into use or set free, or the call was to
-- delete that VMSA or to give back that page.
use mathlib.Core.Path.{◌≡◌, refl, sym, ◌∙◌, ap}
use mathlib.Core.Bool.{true, false}
use Prim.Native.Nat.{ℕ, ◌/◌, ◌<◌}
use native.Mathlib.Omega.{arith}
use lib.Dec.{eqb, ltb}
use lib.ListN.{length}
use borrow.Author.Tests.{eqb-true, eqb-false, ltb-true, ne_eqb}
use Rattle.std.specs.Prelude.{Ok}
use Rattle.rules.specs.declared.Progress.TheVariants.{Success}
use Rattle.rules.specs.Machine.{Lent, N, owner, grant, own, revoke, table_byte, change, page_of, is_live, holds, needs_page}
use Rattle.rules.specs.Machine.{record_at, vcpu}
use Rattle.rules.specs.Calls.{remapped, remap, Asked, free_page, created, create, clear_svme, deleted, delete}
use Rattle.rules.specs.Runs.{in_pool}
use Rattle.laws.proofs.Ranges.{by_test}
use Rattle.laws.proofs.TableByte.{owner_own}
use Rattle.safety.specs.Terms.{SamePage}
use Rattle.laws.proofs.Change.{change_puts, puts_page, change_same}
use Rattle.safety.proofs.Effects.{owned_below}
use Rattle.safety.proofs.Branches.{on_test}
use Rattle.safety.proofs.Checks.{RemapFit, past_remap, CreateFit, past_create, past_delete}
use Rattle.safety.proofs.Pool.Counts.{pooled, in_pool_owner}
use Rattle.safety.proofs.Elsewhere.{Untouched, untouched_twice, untouched_here, write_elsewhere, change_elsewhere, amend_leaves}
use Rattle.safety.proofs.Kept.Untouched.{guarded, apart}

-- the pages that a live record names have their owners
pub record Owned (i : ℕ) (m : Lent) : Type 0 where
  pub vmsa : owner (table_byte m (vcpu m i).vmsa) ≡ 5
  pub calling : owner (table_byte m (vcpu m i).calling) ≡ 1
  pub pool : holds (record_at m i) ≡ true → owner (table_byte m (vcpu m i).pool) ≡ 4

-- what becomes of page p
pub data Fate (E : Type 0) (p : ℕ) (m after : Lent) : Type 0 where
  same : Untouched p m after → Fate E p m after
  turned : SamePage p m after → in_pool (table_byte m p) ≡ true → in_pool (table_byte after p) ≡ true → Fate E p m after
  excused : E → Fate E p m after

-- pages of different owners differ
owners_differ : (m : Lent) (p q a b : ℕ) → owner (table_byte m p) ≡ a → owner (table_byte m q) ≡ b → eqb a b ≡ false → eqb p q ≡ false
owners_differ m p q a b e f n = ne_eqb p q (λ h. eqb-false a b n (sym e ∙ ap (λ x. owner (table_byte m x)) h ∙ f))

-- a guarded page is no live record's calling page
pub calling_low : (i : ℕ) (m : Lent) → Owned i m → (p : ℕ) → guarded m p ≡ true → eqb p (vcpu m i).calling ≡ false
calling_low i m named p g = apart m p (vcpu m i).calling g (omega (arith, named.calling))

-- ---- Remap

module _ (caller rcx p : ℕ) (m : Lent) (g : guarded m p ≡ true) (named : Owned caller m) where
  -- the new page is plain, or the old one
  remap_elsewhere : RemapFit caller rcx m → eqb p (page_of rcx) ≡ false
  remap_elsewhere fit =
      let old = (vcpu m caller).calling in
      by_test (eqb (page_of rcx) old)
      (λ t. rw (eqb-true (page_of rcx) old t) (calling_low caller m named p g))
      (λ t. apart m p (page_of rcx) g (omega (arith, fit.owned (eqb-false (page_of rcx) old t))))

  -- Remap leaves the page
  pub remap_leaves : Untouched p m (remap caller rcx m).after
  unfolding remapped
  remap_leaves =
      past_remap caller rcx m (Untouched p m) untouched_here (λ fit.
      let old = (vcpu m caller).calling in
      let from = calling_low caller m named p g in
      let to = remap_elsewhere fit in
      untouched_twice (on_test (Untouched p m) (eqb old (page_of rcx)) m _ (λ t. untouched_here) (λ t. change_elsewhere _ p old m from))
      (untouched_twice (change_elsewhere _ p (page_of rcx) _ to)
      (untouched_twice (amend_leaves _ caller p _) (untouched_twice (write_elsewhere p old _ _ _ from) (write_elsewhere p (page_of rcx) _ _ _ to)))))

-- ---- a pool page that is taken into use or set free

-- own changes the owner alone
own_flags : (o b : ℕ) → ltb o 8 ≡ true → own o b / 8 ≡ b / 8
unfolding own
own_flags o b h = omega (arith, ltb-true o 8 h)

own_same : (o p : ℕ) (m : Lent) → ltb o 8 ≡ true → p < N m → SamePage p m (change (own o) p m)
own_same o p m h inside =
    let e = change_same (own o) p m inside in
    record { bytes = puts_page (change_puts (own o) p m) p; flags = rw e (own_flags o (table_byte m p) h) }

module _ {E : Type 0} {p : ℕ} {m after later : Lent} where
  -- left alone, and then
  pub untouched_then : Untouched p m after → Fate E p after later → Fate E p m later
  untouched_then h (same k) = same (untouched_twice h k)
  untouched_then h (turned k a b) =
      turned (record { bytes = k.bytes ∙ h.page; flags = k.flags ∙ ap (λ (b : ℕ). b / 8) h.byte }) (ap in_pool (sym h.byte) ∙ a) b
  untouched_then h (excused e) = excused e

  -- and then left alone
  pub then_untouched : Fate E p m after → Untouched p after later → Fate E p m later
  then_untouched (same k) h = same (untouched_twice k h)
  then_untouched (turned k a b) h =
      turned (record { bytes = h.page ∙ k.bytes; flags = ap (λ (b : ℕ). b / 8) h.byte ∙ k.flags }) a (ap in_pool h.byte ∙ b)
  then_untouched (excused e) h = excused e

-- from one owner of the pool to another
owned_anew : {E : Type 0} (from to p q : ℕ) (m : Lent) → ltb to 8 ≡ true → q < N m → owner (table_byte m q) ≡ from
    → pooled from ≡ true → pooled to ≡ true → Fate E p m (change (own to) q m)
owned_anew from to p q m h inside o f t =
    by_test (eqb p q)
    (λ e.
    let now : owner (table_byte (change (own to) q m) q) ≡ to = rw (change_same (own to) q m inside) (owner_own to (table_byte m q) h) in
    rw (eqb-true p q e) (turned (own_same to q m h inside) (in_pool_owner _ from o ∙ f) (in_pool_owner _ to now ∙ t)))
    (λ e. same (change_elsewhere (own to) p q m e))

-- ---- Create and Delete

free_guarded : (m : Lent) (q : ℕ) → owner (table_byte m q) ≡ 3 → guarded m q ≡ true
unfolding guarded
free_guarded m q e = rw e

module _ {E : Type 0} (caller rcx p : ℕ) (m : Lent) (g : guarded m p ≡ true) where
  -- VMSA and calling page are plain, and the pool page is a free one
  created_fate : (a : Asked) (i : ℕ) → CreateFit a i m → Fate E p m (created a i m)
  unfolding created pooled
  created_fate a i fit =
      let low : (q r : ℕ) → guarded m q ≡ true → owner (table_byte m r) ≡ 0 → eqb q r ≡ false = λ q r h o. apart m q r h (omega arith) in
      let two : (q : ℕ) → guarded m q ≡ true → Untouched q m _
      = λ q h. untouched_twice (change_elsewhere (λ b. own 5 (revoke b)) q a.vmsa m (low q a.vmsa h fit.vmsa.owned))
      (change_elsewhere (own 1) q a.calling _ (low q a.calling h fit.calling.owned)) in
      let now = change (own 1) a.calling (change (λ b. own 5 (revoke b)) a.vmsa m) in
      untouched_then (two p g)
      (then_untouched
      (on_test (Fate E p now) (needs_page i) _ now
      (λ t.
      let found = fit.pool_free t in
      let kept = ap owner (two (free_page m) (free_guarded m (free_page m) found)).byte ∙ found in
      owned_anew 3 4 p (free_page m) now refl (owned_below now (free_page m) 3 kept (omega arith)) kept refl refl)
      (λ t. same untouched_here))
      (amend_leaves _ i p _))

  -- Create
  pub create_fate : (rdx r8 : ℕ) → Fate E p m (create caller rcx rdx r8 m).after
  create_fate rdx r8 = past_create caller rcx rdx r8 m (Fate E p m) (same untouched_here) (λ fit. created_fate _ _ fit)

  -- that VMSA, or a calling page, or a pool page in use
  deleted_fate : (vmpl i : ℕ) → Owned i m → (p ≡ (vcpu m i).vmsa → E) → Fate E p m (deleted vmpl i m)
  unfolding deleted clear_svme pooled
  deleted_fate vmpl i named excuse =
      by_test (eqb p (vcpu m i).vmsa)
      (λ t. excused (excuse (eqb-true p (vcpu m i).vmsa t)))
      (λ t.
      let now : Lent = change (own 0) (vcpu m i).calling (change (λ b. grant vmpl (own 0 b)) (vcpu m i).vmsa (clear_svme (vcpu m i).vmsa m)) in
      let two : (q : ℕ) → eqb q (vcpu m i).vmsa ≡ false → eqb q (vcpu m i).calling ≡ false → Untouched q m now
      = λ q a b. untouched_twice (write_elsewhere q (vcpu m i).vmsa 0xD0 _ m a)
      (untouched_twice (change_elsewhere _ q (vcpu m i).vmsa _ a) (change_elsewhere _ q (vcpu m i).calling _ b)) in
      let pool = (vcpu m i).pool in
      untouched_then (two p t (calling_low i m named p g))
      (then_untouched
      (on_test (Fate E p now) (holds (record_at m i)) _ now
      (λ h.
      let from = owners_differ m pool (vcpu m i).vmsa 4 5 (named.pool h) named.vmsa refl in
      let and_from = owners_differ m pool (vcpu m i).calling 4 1 (named.pool h) named.calling refl in
      let still = ap owner (two pool from and_from).byte ∙ named.pool h in
      owned_anew 4 3 p pool now refl (owned_below now pool 4 still (omega arith)) still refl refl)
      (λ h. same untouched_here))
      (amend_leaves _ i p _)))

  -- Delete
  pub delete_fate : ((i : ℕ) → i < length m.sheet → is_live (record_at m i) ≡ true → Owned i m)
      → ((delete caller rcx m).answer ≡ Ok Success → owner (table_byte m p) ≡ 5 → p ≡ page_of rcx → E)
      → Fate E p m (delete caller rcx m).after
  delete_fate owned excuse =
      past_delete caller rcx m (Fate E p m) (same untouched_here) (λ fit.
      let named = owned _ fit.row fit.live in
      deleted_fate (vcpu m caller).vmpl _ named
      (λ e. excuse fit.done (ap (λ q. owner (table_byte m q)) e ∙ named.vmsa) (e ∙ fit.named)))
