-- The pages of a machine that is held: memory has one for each byte of the table.
use Rattle.std.proofs.Common.{◌≡◌, ◌+◌, ◌<◌, ◌≤◌, ℕ, Some, None, cond, length}
use Rattle.rules.specs.Words.{page_size, most_pages}
use Rattle.rules.specs.Machine.{N, usable}
use Rattle.rules.specs.Flat.{parts, parted, memory_sized}
use Rattle.laws.proofs.FlatSteps.{sizes, length_pages}
use Rattle.laws.proofs.Ranges.{by_test}
use Rattle.laws.proofs.Usable.{usable→}
use Rattle.parts.specs.Place.{Place}
use Rattle.pages.proofs.Within.{in_page}
use Rattle.machine.specs.Held.{lent_of}
use Rattle.machine.specs.declared.held.Machine.{Machine}

pub pages_held : (m : Machine) → length (parts page_size m.memory.now) ≡ length m.table.now
unfolding memory_sized
pages_held m = length_pages m.table.now m.memory.now m.sized

-- a place in one of them
pub placed : (m : Machine) (page offset width : ℕ) → page < length m.table.now → offset + width ≤ page_size → Place m.memory.now page_size page offset width
placed m page offset width below within = in_page m.memory.now page offset width (rw (pages_held m) below) within

-- a page that passed its test is one of them
pub page_below : (p vmpl page : ℕ) (m : Machine) → Some p ≡ cond (usable vmpl (lent_of m) page) (Some page) None → p < length m.table.now
unfolding N parted
page_below p vmpl page m e =
    by_test (usable vmpl (lent_of m) page)
    (λ t. let told = rw t at e in let same : p ≡ page = cc in rw same (usable→ vmpl (lent_of m) page t).0)
    (λ t. cc)

-- and they are few
pub most : (m : Machine) → length m.table.now ≤ most_pages
most m = (sizes _ _ m.sized).most
