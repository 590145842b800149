-- What is bounded, for statement 10: steps in a row, the change of a table byte that gives no permission above c, and the change of a record that is of no VMPL
-- below c, before it or after. Of every machine.
use mathlib.Core.Path.{◌≡◌, refl, sym, ◌∙◌, ap}
use mathlib.Core.Logic.{◌⊎◌, inl, inr}
use mathlib.Core.Bool.{Bool, true, true≢false, and-false}
use mathlib.Core.List.{List, [], ◌∷◌}
use Prim.Native.Nat.{ℕ, ◌<◌, ◌≤◌}
use native.Mathlib.Omega.{arith}
use lib.Dec.{eqb, ltb}
use lib.ListN.{length, get_or}
use lib.Seq.{set_out, get_or-set_same, get_or-set_other}
use borrow.Author.Tests.{eqb-true, eqb-false, ltb-true, ltb-false, lt-leb}
use Rattle.rules.specs.declared.Wish.{Wish}
use Rattle.rules.specs.declared.Wish.TheVariants.{Invalid, Valid, Pool}
use Rattle.rules.specs.Words.{each}
use Rattle.rules.specs.Machine.{Lent, N, permitted, grant, revoke, own, make_valid, make_invalid, table_byte, change}
use Rattle.rules.specs.Machine.{fields, is_live, record_at, vcpu, amend}
use Rattle.rules.specs.Lists.{wished}
use Rattle.laws.proofs.Ranges.{by_test}
use Rattle.laws.proofs.TableByte.{permitted_grant, permitted_revoke, permitted_own, permitted_make_valid, permitted_make_invalid}
use Rattle.laws.proofs.Change.{change_same, change_other, change_sheet, change_puts, puts_out}
use Rattle.safety.proofs.Effects.{three_changed}
use Rattle.safety.proofs.Branches.{on_test}

-- ---- steps

-- what Confined says of permissions and of the sheet. It holds step by step, whereas what a VMSA says is settled only once all writes are done
pub record Bounded (c : ℕ) (m after : Lent) : Type 0 where
  pub permissions : (p d : ℕ) → c < d → permitted d (table_byte after p) ≡ true → permitted d (table_byte m p) ≡ true
  pub made : (i : ℕ) → is_live (record_at after i) ≡ true → (vcpu after i).vmpl < c → record_at after i ≡ record_at m i
  pub deleted : (i : ℕ) → is_live (record_at m i) ≡ true → (vcpu m i).vmpl < c → record_at after i ≡ record_at m i

-- where table and sheet are as they were
pub same_bounded : (c : ℕ) (m after : Lent) → after.table ≡ m.table → after.sheet ≡ m.sheet → Bounded c m after
unfolding table_byte record_at
same_bounded c m after tables sheets =
    record {
      permissions = λ p d l e. rw tables at e;
      made = λ i live low. rw sheets;
      deleted = λ i live low. rw sheets;
    }

-- and so where nothing happens
pub bounded_here : (c : ℕ) (m : Lent) → Bounded c m m
bounded_here c m = same_bounded c m m refl refl

module _ {c : ℕ} {m mid after : Lent} where
  -- two in a row
  pub bounded_twice : Bounded c m mid → Bounded c mid after → Bounded c m after
  unfolding vcpu
  bounded_twice h k =
      record {
        permissions = λ p d l e. h.permissions p d l (k.permissions p d l e);
        made = λ i live low. let same = k.made i live low in same ∙ h.made i (rw (← same) live) (rw (← same) low);
        deleted = λ i live low. let same = h.deleted i live low in k.deleted i (rw same live) (rw same low) ∙ same;
      }

-- the table of one and the sheet of another
pub joined_bounded : (c : ℕ) (m tables sheets after : Lent) → Bounded c m tables → Bounded c m sheets → after.table ≡ tables.table
    → after.sheet ≡ sheets.sheet → Bounded c m after
unfolding table_byte record_at vcpu
joined_bounded c m tables sheets after h k e f =
    record {
      permissions = λ p d l t. h.permissions p d l (rw e at t);
      made = λ i live low. rw f (k.made i (rw f at live) (rw f at low));
      deleted = λ i live low. rw f (k.deleted i live low);
    }

-- an effect on each page of a list
pub each_bounded : (c : ℕ) (effect : ℕ → Lent → Lent) → ((p : ℕ) (m : Lent) → Bounded c m (effect p m)) → (ps : List ℕ) (m : Lent)
    → Bounded c m (each effect ps m)
unfolding each
each_bounded c effect one [] m = bounded_here c m
each_bounded c effect one (p ∷ ps) m = bounded_twice (one p m) (each_bounded c effect one ps (effect p m))

-- ---- a table byte

-- f gives no permission above c
abbrev pub Modest : ℕ → (ℕ → ℕ) → Type 0
Modest c f = (d b : ℕ) → c < d → permitted d (f b) ≡ true → permitted d b ≡ true

-- a change of owner gives none
pub own_modest : (c o : ℕ) → ltb o 8 ≡ true → Modest c (own o)
own_modest c o h d b l e = sym (permitted_own d o b h) ∙ e

-- to grant c gives none above c
grant_modest : (c : ℕ) → Modest c (grant c)
grant_modest c d b l e = simp (lt-leb d c l, and-false) at (sym (permitted_grant d c b) ∙ e)

-- to revoke gives none
pub revoke_modest : (c : ℕ) → Modest c revoke
revoke_modest c d b l e = absurd (true≢false (sym e ∙ permitted_revoke d b))

-- one after the other
pub both_modest : (c : ℕ) (f g : ℕ → ℕ) → Modest c f → Modest c g → Modest c (λ b. g (f b))
both_modest c f g h k d b l e = h d b l (k d (f b) l e)

-- plain, and granted to VMPL c, as Delete and Withdraw leave a page
pub given_modest : (c : ℕ) → Modest c (λ b. grant c (own 0 b))
given_modest c = both_modest c (own 0) (grant c) (own_modest c 0 refl) (grant_modest c)

-- what an entry wishes for a page, carried out for VMPL c
pub wished_modest : (wish : Wish) (c : ℕ) → Modest c (wished wish c)
unfolding wished
wished_modest Invalid c = both_modest c revoke make_invalid (revoke_modest c) (λ d b l e. sym (permitted_make_invalid d b) ∙ e)
wished_modest Valid c = both_modest c make_valid (grant c) (λ d b l e. sym (permitted_make_valid d b) ∙ e) (grant_modest c)
wished_modest Pool c = both_modest c revoke (own 3) (revoke_modest c) (own_modest c 3 refl)

-- a table byte after a change is changed, or as it was
changed : (f : ℕ → ℕ) (q : ℕ) (m : Lent) (p : ℕ)
    → (table_byte (change f q m) p ≡ f (table_byte m p)) ⊎ (table_byte (change f q m) p ≡ table_byte m p)
unfolding table_byte
changed f q m p =
    by_test (eqb p q)
    (λ t. by_test (ltb q (N m))
    (λ u. inl (rw (eqb-true p q t) (change_same f q m (ltb-true _ _ u))))
    (λ u. inr (ap (λ table. get_or table p 0) (puts_out (change_puts f q m) (ltb-false _ _ u)))))
    (λ t. inr (change_other f q m p (eqb-false p q t)))

-- so a modest change is bounded
pub change_bounded : (c : ℕ) (f : ℕ → ℕ) (q : ℕ) (m : Lent) → Modest c f → Bounded c m (change f q m)
unfolding record_at
change_bounded c f q m modest =
    let sheets = change_sheet f q m in
    record { permissions = λ p d l. given p d l (changed f q m p); made = λ i live low. rw sheets; deleted = λ i live low. rw sheets }
  where
    given : (p d : ℕ) → c < d → (table_byte (change f q m) p ≡ f (table_byte m p)) ⊎ (table_byte (change f q m) p ≡ table_byte m p)
        → permitted d (table_byte (change f q m) p) ≡ true → permitted d (table_byte m p) ≡ true
    given p d l (inl h) e = modest d (table_byte m p) l (rw h at e)
    given p d l (inr h) e = rw h at e

-- three of them, as Create and Delete change them
pub three_bounded : (c : ℕ) (f g k : ℕ → ℕ) (x y z : ℕ) (t : Bool) (m : Lent) → Modest c f → Modest c g → Modest c k
    → Bounded c m (three_changed f g k x y z t m)
three_bounded c f g k x y z t m on_x on_y on_z =
    let two = bounded_twice (change_bounded c f x m on_x) (change_bounded c g y (change f x m) on_y) in
    on_test (Bounded c m) t _ _ (λ e. bounded_twice two (change_bounded c k z (change g y (change f x m)) on_z)) (λ e. two)

-- ---- a record

-- a record after one was amended is the one, as amended, or as it was
pub amended : (f : List ℕ → List ℕ) (i : ℕ) (m : Lent) (j : ℕ)
    → ((i ≡ j) × (record_at (amend f i m) j ≡ f (record_at m i))) ⊎ (record_at (amend f i m) j ≡ record_at m j)
unfolding amend record_at
amended f i m j =
    by_test (eqb i j)
    (λ t. let here = eqb-true i j t in
    by_test (ltb i (length m.sheet))
    (λ u. inl (here, rw (← here) (get_or-set_same m.sheet i _ [] (ltb-true _ _ u))))
    (λ u. inr (rw (set_out m.sheet i (f (get_or m.sheet i [])) (ltb-false _ _ u)))))
    (λ t. inr (get_or-set_other m.sheet i j _ [] (λ e. eqb-false i j t (sym e))))

module _ (c : ℕ) (f : List ℕ → List ℕ) (i : ℕ) (m : Lent) (new : is_live (f (record_at m i)) ≡ true → c ≤ (fields (f (record_at m i))).vmpl)
    (old : is_live (record_at m i) ≡ true → c ≤ (vcpu m i).vmpl) where
  abbrev now : Lent
  now = amend f i m

  abbrev Either : ℕ → Type 0
  Either j = ((i ≡ j) × (record_at now j ≡ f (record_at m i))) ⊎ (record_at now j ≡ record_at m j)

  made_none : (j : ℕ) → Either j → is_live (record_at now j) ≡ true → (vcpu now j).vmpl < c → record_at now j ≡ record_at m j
  unfolding vcpu
  made_none j (inl both) live low = absurd (omega (arith, new (rw both.1 at live), rw both.1 at low))
  made_none j (inr same) live low = same

  deleted_none : (j : ℕ) → Either j → is_live (record_at m j) ≡ true → (vcpu m j).vmpl < c → record_at now j ≡ record_at m j
  deleted_none j (inl both) live low = absurd (omega (arith, old (rw both.0 live), rw (← both.0) at low))
  deleted_none j (inr same) live low = same

  -- no record of a VMPL below c comes or goes by it
  pub amend_bounded : Bounded c m now
  unfolding amend table_byte
  amend_bounded =
      record {
        permissions = λ p d l e. e;
        made = λ j. made_none j (amended f i m j);
        deleted = λ j. deleted_none j (amended f i m j);
      }
