-- The list that Withdraw writes, as RCX names it, and what it is to give pages back and list them, in memory and table as they are lent.
use Rattle.std.specs.Prelude.{ℕ, ◌+◌, ◌-◌, ◌*◌, ◌/◌, ◌<◌, ◌≤◌, ◌≡◌, List, length, take}
use Rattle.rules.specs.Words.{page_size, most_pages, places, each}
use Rattle.rules.specs.Machine.{◌▷◌, page_of, offset_of, own, plain, grant, written}
use Rattle.rules.specs.Calls.{is_free, gpas}
use Rattle.rules.specs.Flat.{parts}
use Rattle.laws.specs.Revised.{revise}
use Rattle.withdraw_call.specs.declared.GpaList.{GpaList}

-- for a caller of this VMPL
abbrev pub named : ℕ → ℕ → GpaList
named vmpl rcx = record { page = page_of rcx; offset = offset_of rcx; room = (page_size - offset_of rcx - 8) / 8; vmpl = vmpl }

-- its page is one of memory's, count and gPAs end in it, and the table is no longer than it may be
pub record Fits (list : GpaList) (memory table : List ℕ) : Type 0 where
  pub below : list.page < length (parts page_size memory)
  pub within : list.offset + 8 + 8 * list.room ≤ page_size
  pub most : length table ≤ most_pages

-- the free pages below p
abbrev pub free_below : ℕ → List ℕ → List ℕ
free_below p table = places is_free 0 (take p table)

-- page p's table byte plain, and granted to the VMPL
unfoldable pub freed : ℕ → ℕ → List ℕ → List ℕ
freed vmpl p table = revise (λ b. b ▷ own plain ▷ grant vmpl) 0 p table

-- the pages ps are given back: as many as said, and no more than there is room for; their table bytes freed, and their gPAs listed
pub record Given (list : GpaList) (ps memory table memory' table' : List ℕ) (taken : ℕ) : Type 0 where
  pub many : taken ≡ length ps
  pub room : taken ≤ list.room
  pub freed : table' ≡ each (freed list.vmpl) ps table
  pub listed : parts page_size memory' ≡ written list.page (list.offset + 8) (gpas ps) (parts page_size memory)
