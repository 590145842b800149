-- A page past the end is no page, to the definition too.
use mathlib.Core.Path.{sym}
use native.Mathlib.Omega.{arith}
use lib.Dec.{lit<}
use lib.Seq.{set_out}
use Rattle.rules.specs.Words.{page_size}
use Rattle.rules.specs.Machine.{written}
use Rattle.rules.specs.Flat.{parts}
use Rattle.laws.proofs.Parts.{length_parts}
use Rattle.call.proofs.last.put_byte.Goals as goal

pub put_byte-requires : goal.put_byte-requires
unfolding page_size
put_byte-requires c = record { some = lit< tt; below = rw length_parts c.if-page-memory.true; within = omega (arith, c.requires) }

pub returns-then-page-memory : goal.returns-then-page-memory
unfolding page_size
returns-then-page-memory c = c.put_byte.ensures

pub returns-else-page-memory : goal.returns-else-page-memory
unfolding written page_size
returns-else-page-memory c = sym (set_out (parts page_size _) _ _ (rw length_parts c.if-page-memory.false))
