-- What Create is asked for, as the definitions have it; the pool page that a record takes; what is made of the table; and what the tests have shown of the pages.
use Rattle.std.specs.Prelude.{ℕ, ◌<◌, ◌≤◌, cond, List, Option, Some, None, IfSome}
use Rattle.rules.specs.Words.{most_pages}
use Rattle.rules.specs.Machine.{Lent, ◌▷◌, revoke, own, calling_area, pool_in_use, vmsa_area, needs_page}
use Rattle.rules.specs.Calls as rules
use Rattle.laws.specs.Revised.{revise}
use Rattle.create_call.specs.declared.Asked.{Asked}

-- what is asked for
abbrev pub asked_of : Asked → rules.Asked
asked_of a = record { caller_vmpl = a.caller_vmpl; vmsa = a.vmsa; calling = a.calling; apic = a.apic }

-- the pool page of record i, if it needs one
abbrev pub pool_of : ℕ → Lent → Option ℕ
pool_of i m = cond (needs_page i) (Some (rules.free_page m)) None

-- the table with the VMSA page and the calling page marked
unfoldable pub both_marked : rules.Asked → List ℕ → List ℕ
both_marked a table = table ▷ revise (λ b. b ▷ revoke ▷ own vmsa_area) 0 a.vmsa ▷ revise (own calling_area) 0 a.calling

-- and with the pool page, where there is one
unfoldable pub marked : rules.Asked → Option ℕ → List ℕ → List ℕ
marked a None table = both_marked a table
marked a (Some p) table = both_marked a table ▷ revise (own pool_in_use) 0 p

-- both pages, and the pool page where there is one, are among n, which are as many as a machine may have
pub record Fit (n : ℕ) (a : Asked) (pool : Option ℕ) : Type 0 where
  pub most : n ≤ most_pages
  pub vmsa : a.vmsa < n
  pub calling : a.calling < n
  pub in_use : IfSome pool (λ p. p < n)
