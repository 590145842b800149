-- A page that an effect leaves alone, since the effect is on other pages. Of every machine, sound or not.
use mathlib.Core.Path.{◌≡◌, refl, ◌∙◌}
use mathlib.Core.Bool.{false}
use mathlib.Core.List.{List, [], ◌∷◌}
use Prim.Native.Nat.{ℕ}
use lib.Dec.{eqb}
use lib.Seq.{get_or-set_other}
use borrow.Author.Tests.{eqb-false}
use Rattle.rules.specs.Words.{exists, each}
use Rattle.rules.specs.declared.Wish.{Wish}
use Rattle.rules.specs.declared.Wish.TheVariants.{Invalid, Valid, Pool}
use Rattle.rules.specs.Machine.{Lent, with_memory, write, fill, table_byte, change, page_at, amend}
use Rattle.rules.specs.Lists.{cleared, carry_out}
use Rattle.laws.proofs.Ranges.{or_false}
use Rattle.safety.specs.Terms.{KeptPage}
use Rattle.laws.proofs.Change.{change_puts, puts_page, change_other}
use Rattle.safety.proofs.Effects.{page_not_written, carry_out_other, carried_puts}

-- page p has the bytes and the table byte that it had
pub record Untouched (p : ℕ) (m after : Lent) : Type 0 where
  pub page : page_at after p ≡ page_at m p
  pub byte : table_byte after p ≡ table_byte m p

-- so it is kept
pub kept_page : {p : ℕ} {m after : Lent} → Untouched p m after → KeptPage p m after
kept_page h = record { bytes = h.page; byte = h.byte }

-- left alone twice
pub untouched_twice : {p : ℕ} {m after later : Lent} → Untouched p m after → Untouched p after later → Untouched p m later
untouched_twice h k = record { page = k.page ∙ h.page; byte = k.byte ∙ h.byte }

-- where nothing happens
pub untouched_here : {p : ℕ} {m : Lent} → Untouched p m m
untouched_here = record { page = refl; byte = refl }

-- ---- effects elsewhere

-- a write in another page
pub write_elsewhere : (p q o : ℕ) (bytes : List ℕ) (m : Lent) → eqb p q ≡ false → Untouched p m (write q o bytes m)
unfolding write with_memory table_byte
write_elsewhere p q o bytes m e = record { page = page_not_written q o bytes m p (eqb-false p q e); byte = refl }

-- a change of another table byte
pub change_elsewhere : (f : ℕ → ℕ) (p q : ℕ) (m : Lent) → eqb p q ≡ false → Untouched p m (change f q m)
change_elsewhere f p q m e = record { page = puts_page (change_puts f q m) p; byte = change_other f q m p (eqb-false p q e) }

-- a record amended
pub amend_leaves : (f : List ℕ → List ℕ) (i p : ℕ) (m : Lent) → Untouched p m (amend f i m)
unfolding amend page_at table_byte
amend_leaves f i p m = record { page = refl; byte = refl }

cleared_elsewhere : (wish : Wish) (p q : ℕ) (m : Lent) → eqb p q ≡ false → page_at (cleared wish q m) p ≡ page_at m p
unfolding cleared fill with_memory page_at
cleared_elsewhere Invalid p q m e = refl
cleared_elsewhere Valid p q m e = get_or-set_other m.memory q p _ [] (eqb-false p q e)
cleared_elsewhere Pool p q m e = refl

-- an entry carried out on another page
pub carry_elsewhere : (wish : Wish) (vmpl p q : ℕ) (m : Lent) → eqb p q ≡ false → Untouched p m (carry_out wish vmpl q m)
carry_elsewhere wish vmpl p q m e =
    record { page = puts_page (carried_puts wish vmpl q m) p ∙ cleared_elsewhere wish p q m e; byte = carry_out_other wish vmpl q m p (eqb-false p q e) }

-- an effect on each of some other pages
pub each_elsewhere : (effect : ℕ → Lent → Lent) (p : ℕ) → ((q : ℕ) (m : Lent) → eqb p q ≡ false → Untouched p m (effect q m))
    → (qs : List ℕ) (m : Lent) → exists (eqb p) qs ≡ false → Untouched p m (each effect qs m)
unfolding each exists
each_elsewhere effect p leaves [] m e = untouched_here
each_elsewhere effect p leaves (q ∷ qs) m e =
    let both = or_false (eqb p q) (exists (eqb p) qs) e in
    untouched_twice (leaves q m both.0) (each_elsewhere effect p leaves qs (effect q m) both.1)
