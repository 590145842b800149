-- What the methods of a list are told, and what its head's answer makes of a call.
use Rattle.std.specs.Prelude.{ℕ, ◌+◌, ◌<◌, ◌≤◌, List, min, length, Result, Ok, Err}
use Rattle.rules.specs.declared.Refusal.{Refusal}
use Rattle.rules.specs.declared.ListCall.{ListCall}
use Rattle.rules.specs.Words.{page_size, entries_a_call}
use Rattle.rules.specs.Answers.{Code, Answered}
use Rattle.rules.specs.Machine.{Lent, page_of, offset_of}
use Rattle.rules.specs.Lists.{run}
use Rattle.rules.specs.Flat.{parts}

-- the list's page is one of memory's, and its first `bytes` bytes are in that page
pub record Listed (rcx : ℕ) (memory : List ℕ) (bytes : ℕ) : Type 0 where
  pub below : page_of rcx < length (parts page_size memory)
  pub within : offset_of rcx + bytes ≤ page_size

-- a head that is refused leaves all as it is; else as many entries are done as a call does, of those that are left from next on
abbrev pub after_head : ListCall → ℕ → ℕ → Result (ℕ × ℕ) Refusal → Lent → Answered Code Lent
after_head call caller rcx (Ok (next, left)) m = run call caller rcx (min entries_a_call left) next m
after_head call caller rcx (Err why) m = record { answer = Err why; after = m }
