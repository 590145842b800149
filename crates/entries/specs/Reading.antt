-- The definition of an entry's reading, on the table and the list's page alone: it looks at nothing else.
use Rattle.std.specs.Prelude.{Bool, cond, not, ◌&&◌, List, ℕ, ◌*◌, get_or, Result, Ok, Err}
use Rattle.rules.specs.Words.{page_size, bit}
use Rattle.rules.specs.declared.Refusal.{Refusal}
use Rattle.rules.specs.declared.Refusal.TheVariants.{Address, SizeMismatch, NoChange}
use Rattle.rules.specs.declared.Entry.{Entry}
use Rattle.rules.specs.declared.ListCall.{ListCall}
use Rattle.rules.specs.declared.ListCall.TheVariants.{Pvalidate, Deposit}
use Rattle.rules.specs.declared.Wish.{Wish}
use Rattle.rules.specs.declared.Wish.TheVariants.{Invalid, Valid, Pool}
use Rattle.rules.specs.Machine.{valid}
use Rattle.rules.specs.Lists.{read_entry}
use Rattle.laws.specs.Alone.{table_alone}

-- the definition, for a caller of this VMPL, at a machine that has this table, and a list at the front of this page
unfoldable pub read_at : ListCall → ℕ → ℕ → ℕ → List ℕ → Result Entry Refusal
read_at call vmpl list e table = read_entry call vmpl (page_size * list) e (table_alone table)

abbrev pub valid_at : List ℕ → ℕ → Bool
valid_at table p = valid (get_or table p 0)

-- its last steps: the wish of an entry whose covered pages are all valid, or none
abbrev pub wish_of : ListCall → Bool → Bool → ℕ → Result Wish Refusal
wish_of Pvalidate all none e =
    cond (not all && not none) (Err SizeMismatch)
    (cond (cond (bit 2 e) all none && not (bit 3 e)) (Err NoChange)
    (Ok (cond (bit 2 e) Valid Invalid)))
wish_of Deposit all none e = cond (not all) (Err Address) (Ok Pool)
