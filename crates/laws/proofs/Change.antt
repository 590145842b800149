-- The one way to write a table byte: what `put` and `change` make of a machine. Of the statements' proofs none sees through them, and of the code's
-- those alone of the methods that carry them out (`machine`, writes) and of an entry's page (`effects`): whatever a later request attaches to them is told there.
use mathlib.Core.Path.{◌≡◌, refl, sym, ◌∙◌, ap}
use mathlib.Core.Bool.{cond}
use mathlib.Core.List.{[]}
use Prim.Native.Nat.{ℕ, ◌<◌, ◌≤◌}
use lib.Dec.{eqb, ltb}
use lib.ListN.{length, get_or, set, length-set}
use lib.Seq.{set_out, set-set, get_or-set_same, get_or-set_other}
use borrow.Author.Tests.{eqb-true, eqb-false, ltb-true, ltb-false}
use Rattle.rules.specs.Machine.{Lent, N, page_at, table_byte, put, change}
use Rattle.laws.specs.Revised.{revise}
use Rattle.laws.proofs.Ranges.{by_test}

-- byte b is put at page p, and nothing else happens
pub record Puts (p b : ℕ) (m after : Lent) : Type 0 where
  pub table : after.table ≡ set m.table p b
  pub memory : after.memory ≡ m.memory
  pub sheet : after.sheet ≡ m.sheet

-- a byte put
pub put_puts : (p b : ℕ) (m : Lent) → Puts p b m (put p b m)
unfolding put
put_puts p b m = record { table = refl; memory = refl; sheet = refl }

-- a byte changed
pub change_puts : (f : ℕ → ℕ) (p : ℕ) (m : Lent) → Puts p (f (table_byte m p)) m (change f p m)
unfolding change
change_puts f p m = put_puts p (f (table_byte m p)) m

module _ {p b : ℕ} {m after : Lent} (h : Puts p b m after) where
  -- it is there, if the page is one of the table's
  pub puts_same : p < N m → table_byte after p ≡ b
  unfolding table_byte N
  puts_same k = rw h.table (get_or-set_same m.table p b 0 k)

  -- each other is as it was
  pub puts_other : (q : ℕ) → (q ≡ p → ⊥) → table_byte after q ≡ table_byte m q
  unfolding table_byte
  puts_other q k = rw h.table (get_or-set_other m.table p q b 0 k)

  -- all are, if the page is past the table's end
  pub puts_out : N m ≤ p → after.table ≡ m.table
  unfolding N
  puts_out k = h.table ∙ set_out m.table p b k

  -- as many pages as before
  pub puts_N : N after ≡ N m
  unfolding N
  puts_N = rw h.table (length-set m.table p b)

  -- each page has the bytes that it had
  pub puts_page : (q : ℕ) → page_at after q ≡ page_at m q
  unfolding page_at
  puts_page q = ap (λ pages. get_or pages q []) h.memory

module _ (f : ℕ → ℕ) (q : ℕ) (m : Lent) where
  -- the byte that was changed
  pub change_same : q < N m → table_byte (change f q m) q ≡ f (table_byte m q)
  change_same h = puts_same (change_puts f q m) h

  -- each other is as it was
  pub change_other : (p : ℕ) → (p ≡ q → ⊥) → table_byte (change f q m) p ≡ table_byte m p
  change_other p h = puts_other (change_puts f q m) p h

  -- as many pages as before
  pub change_N : N (change f q m) ≡ N m
  change_N = puts_N (change_puts f q m)

  -- the table
  pub change_table : (change f q m).table ≡ revise f 0 q m.table
  unfolding revise table_byte
  change_table = (change_puts f q m).table

  -- the same memory
  pub change_memory : (change f q m).memory ≡ m.memory
  change_memory = (change_puts f q m).memory

  -- the same sheet
  pub change_sheet : (change f q m).sheet ≡ m.sheet
  change_sheet = (change_puts f q m).sheet

  -- any byte below N after the change
  pub change_byte : (p : ℕ) → p < N m → table_byte (change f q m) p ≡ cond (eqb q p) (f (table_byte m p)) (table_byte m p)
  change_byte p h =
      by_test (eqb q p)
      (λ t. let e : q ≡ p = eqb-true q p t in rw (t, ← e) (change_same (rw e h)))
      (λ t. rw t (change_other p (λ e. eqb-false q p t (sym e))))

-- machines of one table have one after it
pub change_alike : (f : ℕ → ℕ) (q : ℕ) (m m' : Lent) → m.table ≡ m'.table → (change f q m).table ≡ (change f q m').table
change_alike f q m m' e = change_table f q m ∙ ap (revise f 0 q) e ∙ sym (change_table f q m')

-- a byte changed twice is changed once by both
pub change_twice : (f g : ℕ → ℕ) (q : ℕ) (m : Lent) → change g q (change f q m) ≡ change (λ b. g (f b)) q m
unfolding change put table_byte
change_twice f g q m =
    by_test (ltb q (length m.table))
    (λ t. rw (get_or-set_same m.table q (f (get_or m.table q 0)) 0 (ltb-true q (length m.table) t), set-set))
    (λ t. let past = ltb-false q (length m.table) t in rw (set_out m.table q (f (get_or m.table q 0)) past, set_out m.table q _ past, set_out m.table q _ past))
