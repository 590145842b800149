-- What the effects of the calls leave of any machine, sound or not: the table bytes, the number of pages, the sheet, memory.
use mathlib.Core.Path.{◌≡◌, refl, sym, ◌∙◌, ap}
use mathlib.Core.Logic.{◌⊎◌}
use mathlib.Core.Bool.{Bool, true, false, cond, ◌&&◌, and-eq-true_iff}
use mathlib.Core.List.{List, []}
use Prim.Native.Nat.{ℕ, ◌+◌, ◌<◌, ◌≤◌}
use native.Mathlib.Omega.{arith}
use lib.Dec.{eqb, ltb}
use lib.ListN.{length, get_or, set, length-set, get_or-eq_default}
use lib.Seq.{sets, set_out, get_or-set_same, get_or-set_other}
use borrow.Author.Tests.{eqb-true, eqb-false, ne_eqb, ltb-true, ltb-false}
use Rattle.rules.specs.declared.Wish.{Wish}
use Rattle.rules.specs.declared.Wish.TheVariants.{Invalid, Valid, Pool}
use Rattle.rules.specs.Words.{record_size, bits, little, range, each}
use Rattle.rules.specs.Machine.{Lent, N, page_at, with_memory, written, write, zeros, fill, owner, grant, revoke, own, table_byte, change}
use Rattle.rules.specs.Machine.{holds, needs_page, record_at, vcpu, startup, amend}
use Rattle.rules.specs.Lists.{wished, cleared, carry_out, carry_out_all}
use Rattle.rules.specs.Calls.{remapped, Asked, free_page, new_record, created, clear_svme, deleted, give_back, withdrawn_pages, withdrawn}
use Rattle.laws.proofs.Ranges.{by_test, each_same}
use Rattle.laws.proofs.Numbers.{getD_sets_elsewhere}
use Rattle.laws.proofs.Counts.{memory_each, sheet_each}
use Rattle.safety.proofs.Small.{implied}
use Rattle.safety.proofs.Branches.{on_test}
use Rattle.laws.proofs.Change.{Puts, put_puts, change_puts, change_other, change_N, change_memory, change_sheet, change_byte, change_alike}

-- ---- a table byte

-- a page that has an owner is one of the table's: past its end a byte reads as 0
pub owned_below : (m : Lent) (p o : ℕ) → owner (table_byte m p) ≡ o → 1 ≤ o → p < N m
unfolding N table_byte owner bits
owned_below m p o e h =
    by_test (ltb p (length m.table)) (ltb-true p (length m.table))
    (λ t. absurd (omega (arith, rw (get_or-eq_default m.table 0 (ltb-false p (length m.table) t)) at e)))

-- ---- three table bytes: VMSA a, calling page b and, if t, pool page c, as Create and Delete change them

module _ (f g k : ℕ → ℕ) (a b c : ℕ) (t : Bool) (m : Lent) where
  abbrev two_changed : Lent
  two_changed = change g b (change f a m)

  -- the machine after it
  abbrev pub three_changed : Lent
  three_changed = cond t (change k c two_changed) two_changed

  -- what no change touches is as it was
  three_kept : {A : Type 0} (part : Lent → A) → ((f : ℕ → ℕ) (p : ℕ) (now : Lent) → part (change f p now) ≡ part now) → part three_changed ≡ part m
  three_kept part kept =
      let two = kept g b (change f a m) ∙ kept f a m in
      on_test (λ now. part now ≡ part m) t _ _ (λ e. kept k c two_changed ∙ two) (λ e. two)

  -- as many pages as before
  pub three_N : N three_changed ≡ N m
  three_N = three_kept N change_N

  -- the same memory
  three_memory : three_changed.memory ≡ m.memory
  three_memory = three_kept (λ now. now.memory) change_memory

  -- the same sheet
  three_sheet : three_changed.sheet ≡ m.sheet
  three_sheet = three_kept (λ now. now.sheet) change_sheet

  -- what holds of each new byte, and of each old one elsewhere, holds of all
  pub three_bytes : (P : ℕ → ℕ → Type 0) → (a ≡ b → ⊥) → (t ≡ true → (a ≡ c → ⊥) × (b ≡ c → ⊥))
      → P a (f (table_byte m a)) → P b (g (table_byte m b)) → (t ≡ true → P c (k (table_byte m c)))
      → ((p : ℕ) → p < N m → eqb a p ≡ false → eqb b p ≡ false → (t && eqb c p) ≡ false → P p (table_byte m p))
      → (p : ℕ) → p < N m → P p (table_byte three_changed p)
  three_bytes P a_b a_b_c at_a at_b at_c elsewhere p h =
      let byte_1 = change_byte f a m p h in
      let byte_2 = change_byte g b (change f a m) p (rw (change_N f a m) h) in
      let byte_3 : table_byte three_changed p ≡ cond (t && eqb c p) (k (table_byte two_changed p)) (table_byte two_changed p)
      = on_test (λ now. table_byte now p ≡ cond (t && eqb c p) (k (table_byte two_changed p)) (table_byte two_changed p)) t _ _
      (λ e. rw e (change_byte k c two_changed p (rw (change_N g b (change f a m) ∙ change_N f a m) h))) (λ e. rw e) in
      by_test (eqb a p)
      (λ u.
      let here = eqb-true a p u in
      let not_b : eqb b p ≡ false = ne_eqb b p (λ e. a_b (here ∙ sym e)) in
      let not_c : (t && eqb c p) ≡ false = implied t (eqb c p) (λ e. ne_eqb c p (λ q. (a_b_c e).0 (here ∙ sym q))) in
      rw (byte_3, byte_2, byte_1, u, not_b, not_c, ← here) at_a)
      (λ u. by_test (eqb b p)
      (λ v.
      let here = eqb-true b p v in
      let not_c : (t && eqb c p) ≡ false = implied t (eqb c p) (λ e. ne_eqb c p (λ q. (a_b_c e).1 (here ∙ sym q))) in
      rw (byte_3, byte_2, byte_1, u, v, not_c, ← here) at_b)
      (λ v. by_test (t && eqb c p)
      (λ w.
      let both = (and-eq-true_iff t (eqb c p)).0 w in
      rw (byte_3, byte_2, byte_1, w, u, v, ← eqb-true c p both.1) (at_c both.0))
      (λ w. rw (byte_3, byte_2, byte_1, w, u, v) (elsewhere p h u v w))))

-- machines of one table have one after them
three_alike : (f g k : ℕ → ℕ) (a b c : ℕ) (t : Bool) (m m' : Lent) → m.table ≡ m'.table
    → (three_changed f g k a b c t m).table ≡ (three_changed f g k a b c t m').table
three_alike f g k a b c t m m' e =
    let two = change_alike g b (change f a m) (change f a m') (change_alike f a m m' e) in
    by_test t (λ u. rw u (change_alike k c _ _ two)) (λ u. rw u two)

-- ---- a page written

module _ (p offset : ℕ) (bytes : List ℕ) (m : Lent) where
  -- the page itself
  pub page_written : p < length m.memory → page_at (write p offset bytes m) p ≡ sets (page_at m p) offset bytes
  unfolding page_at write with_memory written
  page_written h = get_or-set_same m.memory p (sets (get_or m.memory p []) offset bytes) [] h

  -- as many pages as before
  pub memory_written : length (write p offset bytes m).memory ≡ length m.memory
  unfolding write with_memory written
  memory_written = length-set m.memory p _

  -- each other page
  pub page_not_written : (q : ℕ) → (q ≡ p → ⊥) → page_at (write p offset bytes m) q ≡ page_at m q
  unfolding page_at write with_memory written
  page_not_written q h = get_or-set_other m.memory p q (sets (get_or m.memory p []) offset bytes) [] h

  -- any, if the page is past the end of memory
  pub page_out : (q : ℕ) → length m.memory ≤ p → page_at (write p offset bytes m) q ≡ page_at m q
  unfolding page_at write with_memory written
  page_out q h = ap (λ pages. get_or pages q []) (set_out m.memory p (sets (get_or m.memory p []) offset bytes) h)

-- a byte of any page, if the write ends before it or begins after it
pub written_elsewhere : (p offset : ℕ) (bytes : List ℕ) (pages : List (List ℕ)) (q k : ℕ) → (k < offset) ⊎ (offset + length bytes ≤ k)
    → get_or (get_or (written p offset bytes pages) q []) k 0 ≡ get_or (get_or pages q []) k 0
unfolding written
written_elsewhere p offset bytes pages q k h =
    let page : List ℕ = sets (get_or pages p []) offset bytes in
    by_test (eqb q p)
    (λ t. rw (eqb-true q p t)
    (by_test (ltb p (length pages))
    (λ u. rw (get_or-set_same pages p page [] (ltb-true p (length pages) u)) (getD_sets_elsewhere (get_or pages p []) offset bytes k 0 h))
    (λ u. rw (set_out pages p page (ltb-false p (length pages) u)))))
    (λ t. rw (get_or-set_other pages p q page [] (eqb-false q p t)))

-- ---- the sheet

-- the startup's record goes by the sheet
pub same_startup : (m m' : Lent) → m'.sheet ≡ m.sheet → startup m' ≡ startup m
unfolding startup vcpu record_at
same_startup m m' e = rw e

-- ---- a page of an entry

-- its memory is cleared, and then its table byte is put
pub carried_puts : (wish : Wish) (vmpl p : ℕ) (m : Lent) → Puts p (wished wish vmpl (table_byte m p)) (cleared wish p m) (carry_out wish vmpl p m)
unfolding carry_out
carried_puts wish vmpl p m = put_puts p (wished wish vmpl (table_byte m p)) (cleared wish p m)

cleared_kept : (wish : Wish) (p : ℕ) (m : Lent) → ((cleared wish p m).table ≡ m.table) × ((cleared wish p m).sheet ≡ m.sheet)
unfolding cleared fill with_memory
cleared_kept Invalid p m = (refl, refl)
cleared_kept Valid p m = (refl, refl)
cleared_kept Pool p m = (refl, refl)

module _ (wish : Wish) (vmpl p : ℕ) (m : Lent) where
  -- the table, as a change of one byte
  pub carry_out_table : (carry_out wish vmpl p m).table ≡ (change (wished wish vmpl) p m).table
  carry_out_table =
      (carried_puts wish vmpl p m).table ∙ ap (λ table. set table p (wished wish vmpl (table_byte m p))) (cleared_kept wish p m).0
      ∙ sym (change_puts (wished wish vmpl) p m).table

  -- each other table byte is as it was
  pub carry_out_other : (q : ℕ) → (q ≡ p → ⊥) → table_byte (carry_out wish vmpl p m) q ≡ table_byte m q
  unfolding table_byte
  carry_out_other q h = ap (λ table. get_or table q 0) carry_out_table ∙ change_other (wished wish vmpl) p m q h

  -- so is the sheet
  pub carry_out_sheet : (carry_out wish vmpl p m).sheet ≡ m.sheet
  carry_out_sheet = (carried_puts wish vmpl p m).sheet ∙ (cleared_kept wish p m).1

-- after all pages of the entry too
pub entry_sheet : (wish : Wish) (vmpl first n : ℕ) (m : Lent) → (carry_out_all wish vmpl first n m).sheet ≡ m.sheet
unfolding carry_out_all
entry_sheet wish vmpl first n m = each_same (λ m. m.sheet) (carry_out wish vmpl) (carry_out_sheet wish vmpl) (range first n) m

-- ---- a page given back

module _ (vmpl p : ℕ) (m : Lent) where
  -- each other table byte is as it was
  pub give_back_other : (q : ℕ) → (q ≡ p → ⊥) → table_byte (give_back vmpl p m) q ≡ table_byte m q
  unfolding give_back
  give_back_other q h = change_other (λ b. grant vmpl (own 0 b)) p m q h

  -- so is the sheet
  pub give_back_sheet : (give_back vmpl p m).sheet ≡ m.sheet
  unfolding give_back
  give_back_sheet = change_sheet (λ b. grant vmpl (own 0 b)) p m

  -- the table, as a change of one byte
  pub give_back_table : (give_back vmpl p m).table ≡ (change (λ b. grant vmpl (own 0 b)) p m).table
  unfolding give_back
  give_back_table = refl

-- pages given back keep their bytes, and so does every other
pub given_memory : (vmpl : ℕ) (ps : List ℕ) (m : Lent) → (each (give_back vmpl) ps m).memory ≡ m.memory
unfolding give_back
given_memory vmpl ps m = memory_each _ ps m

-- ---- the calls

-- Remap: the sheet
pub remapped_sheet : (caller old new : ℕ) (m : Lent)
    → (remapped caller old new m).sheet ≡ set m.sheet caller (sets (record_at m caller) 12 (little 4 new))
unfolding remapped amend write with_memory record_at
remapped_sheet caller old new m =
    let first = on_test (λ now. now.sheet ≡ m.sheet) (eqb old new) m (change (own 0) old m) (λ t. refl) (λ t. change_sheet (own 0) old m) in
    ap (λ rows. set rows caller (sets (get_or rows caller []) 12 (little 4 new))) (change_sheet (own 1) new _ ∙ first)

-- Create: the sheet
pub created_sheet : (a : Asked) (i : ℕ) (m : Lent) → (created a i m).sheet ≡ set m.sheet i (new_record a i m)
unfolding created amend
created_sheet a i m = ap (λ rows. set rows i (new_record a i m)) (three_sheet _ _ _ _ _ _ (needs_page i) m)

-- the table
pub created_table : (a : Asked) (i : ℕ) (m : Lent)
    → (created a i m).table ≡ (three_changed (λ b. own 5 (revoke b)) (own 1) (own 4) a.vmsa a.calling (free_page m) (needs_page i) m).table
unfolding created amend
created_table a i m = refl

-- memory
pub created_memory : (a : Asked) (i : ℕ) (m : Lent) → (created a i m).memory ≡ m.memory
unfolding created amend
created_memory a i m = three_memory _ _ _ _ _ _ (needs_page i) m

-- Delete: the sheet
pub deleted_sheet : (vmpl i : ℕ) (m : Lent) → (deleted vmpl i m).sheet ≡ set m.sheet i (zeros record_size)
unfolding deleted clear_svme amend write with_memory
deleted_sheet vmpl i m = ap (λ rows. set rows i (zeros record_size)) (three_sheet _ _ _ _ _ _ (holds (record_at m i)) _)

-- the table
pub deleted_table : (vmpl i : ℕ) (m : Lent)
    → (deleted vmpl i m).table
    ≡ (three_changed (λ b. grant vmpl (own 0 b)) (own 0) (own 3) (vcpu m i).vmsa (vcpu m i).calling (vcpu m i).pool (holds (record_at m i)) m).table
unfolding deleted clear_svme amend write with_memory
deleted_table vmpl i m = three_alike _ _ _ _ _ _ (holds (record_at m i)) _ m refl

-- memory
pub deleted_memory : (vmpl i : ℕ) (m : Lent) → (deleted vmpl i m).memory ≡ (clear_svme (vcpu m i).vmsa m).memory
unfolding deleted amend
deleted_memory vmpl i m = three_memory _ _ _ _ _ _ (holds (record_at m i)) _

-- Withdraw: the sheet
pub withdrawn_sheet : (vmpl rcx : ℕ) (m : Lent) → (withdrawn vmpl rcx m).sheet ≡ m.sheet
unfolding withdrawn write with_memory give_back
withdrawn_sheet vmpl rcx m = sheet_each _ (withdrawn_pages rcx m) m
