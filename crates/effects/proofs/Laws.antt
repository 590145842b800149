-- What an entry does to memory and table depends on no sheet, and leaves the sheet alone.
-- Assumes nothing.
use mathlib.Core.Path.{◌≡◌, refl, sym, ◌∙◌, ap}
use mathlib.Core.List.{List, [], ◌∷◌}
use Prim.Native.Nat.{ℕ, suc, ◌+◌, ◌-◌, ◌≤◌}
use native.Mathlib.Omega.{arith}
use lib.ListN.{get_or, set}
use Rattle.rules.specs.Words.{record_size, range, each}
use Rattle.rules.specs.Machine.{Lent, with_memory, fill, put, table_byte}
use Rattle.rules.specs.Lists.{wished, cleared, carry_out, carry_out_all}
use Rattle.rules.specs.Flat.{buffers, parts, parted}
use Rattle.rules.specs.declared.Wish.{Wish}
use Rattle.rules.specs.declared.Wish.TheVariants.{Invalid, Valid, Pool}
use Rattle.laws.specs.Alone.{without_sheet}
use Rattle.laws.proofs.Ranges.{each_append, each_part, range_snoc}

-- one page: what becomes of memory, table and sheet
pub carry_out_apart : (wish : Wish) (vmpl p : ℕ) (m : Lent)
    → carry_out wish vmpl p m
    ≡ record {
      memory = (cleared wish p (record { memory = m.memory; table = []; sheet = [] })).memory;
      table = set m.table p (wished wish vmpl (get_or m.table p 0));
      sheet = m.sheet;
    }
unfolding carry_out cleared put fill with_memory table_byte
carry_out_apart Invalid vmpl p m = refl
carry_out_apart Valid vmpl p m = refl
carry_out_apart Pool vmpl p m = refl

-- the machine with another sheet
abbrev with_sheet : List (List ℕ) → Lent → Lent
with_sheet sheet m = record { memory = m.memory; table = m.table; sheet = sheet }

carry_out_with : (sheet : List (List ℕ)) (wish : Wish) (vmpl p : ℕ) (m : Lent)
    → with_sheet sheet (carry_out wish vmpl p m) ≡ carry_out wish vmpl p (with_sheet sheet m)
carry_out_with sheet wish vmpl p m = ap (with_sheet sheet) (carry_out_apart wish vmpl p m) ∙ sym (carry_out_apart wish vmpl p (with_sheet sheet m))

module _ (wish : Wish) (vmpl first : ℕ) where
  -- an entry, carried out without the sheet and so with it
  pub all_after : (count : ℕ) (memory table sheet memory' table' : List ℕ)
      → carry_out_all wish vmpl first count (without_sheet memory table) ≡ without_sheet memory' table'
      → carry_out_all wish vmpl first count (parted (buffers memory table sheet)) ≡ parted (buffers memory' table' sheet)
  unfolding carry_out_all parted
  all_after count memory table sheet memory' table' e =
      let rows = parts record_size sheet in
      sym (each_part (with_sheet rows) (carry_out wish vmpl) (carry_out wish vmpl) (carry_out_with rows wish vmpl) (range first count) (without_sheet memory table))
      ∙ ap (with_sheet rows) e

  module _ (m : Lent) where
    -- no page
    pub carry_out_none : carry_out_all wish vmpl first (first - first) m ≡ m
    unfolding carry_out_all range each
    carry_out_none = let none : first - first ≡ 0 = omega arith in rw none

    -- page p after those before it
    pub carry_out_more : (p : ℕ) → first ≤ p → carry_out_all wish vmpl first (p + 1 - first) m ≡ carry_out wish vmpl p (carry_out_all wish vmpl first (p - first) m)
    unfolding carry_out_all each
    carry_out_more p h =
        let one : p + 1 - first ≡ suc (p - first) = omega arith in
        let last : first + (p - first) ≡ p = omega arith in
        rw one (ap (λ ps. each (carry_out wish vmpl) ps m) (range_snoc first (p - first))
        ∙ rw last (each_append (carry_out wish vmpl) (range first (p - first)) (p ∷ []) m))
