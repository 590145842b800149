-- What Create makes, part by part: memory stays, the table is marked, and one record of the sheet is new.
-- Assumes nothing.
use mathlib.Core.Path.{◌≡◌, sym, ◌∙◌}
use mathlib.Core.List.{List}
use Prim.Native.Nat.{ℕ}
use lib.ListN.{set}
use Rattle.std.specs.Prelude.{Option}
use Rattle.rules.specs.Machine.{Lent, needs_page, amend}
use Rattle.rules.specs.Calls.{Asked, new_record, created}
use Rattle.laws.proofs.Change.{change_table, change_memory, change_sheet}
use Rattle.laws.proofs.Ranges.{by_test}
use Rattle.create_call.specs.Wanted.{pool_of, both_marked, marked}

module _ (a : Asked) (i : ℕ) (m : Lent) where
  table_made : marked a (pool_of i m) m.table ≡ (created a i m).table
  unfolding created amend both_marked marked
  table_made = by_test (needs_page i) (λ t. rw t (simp change_table)) (λ t. rw t (simp change_table))

  memory_made : (created a i m).memory ≡ m.memory
  unfolding created amend
  memory_made = by_test (needs_page i) (λ t. rw t (simp change_memory)) (λ t. rw t (simp change_memory))

  sheet_made : (created a i m).sheet ≡ set m.sheet i (new_record a i m)
  unfolding created amend
  sheet_made = by_test (needs_page i) (λ t. rw t (simp change_sheet)) (λ t. rw t (simp change_sheet))

  -- all that is made, from its parts
  pub made : (pool : Option ℕ) (table : List ℕ) (sheet : List (List ℕ)) → pool ≡ pool_of i m → table ≡ marked a pool m.table
      → sheet ≡ set m.sheet i (new_record a i m) → record { memory = m.memory; table = table; sheet = sheet } ≡ created a i m
  made pool table sheet e f g =
      let marks : table ≡ (created a i m).table = rw (f, e) table_made in
      λ k. record { memory = sym memory_made k; table = marks k; sheet = (g ∙ sym sheet_made) k }
