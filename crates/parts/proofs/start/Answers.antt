-- A part ends within the slice.
use Rattle.std.proofs.Common.{arith}
use Rattle.laws.proofs.Parts.{part_within}
use Rattle.parts.proofs.start.Goals as goal

pub overflow_mul-result : goal.overflow_mul-result
overflow_mul-result c = omega (arith, part_within _ _ _ c.requires.some c.requires.below)

pub overflow_add-result : goal.overflow_add-result
overflow_add-result c = omega (arith, part_within _ _ _ c.requires.some c.requires.below, c.requires.within)

pub returns-clause-ends : goal.returns-clause-ends
returns-clause-ends c = omega (arith, part_within _ _ _ c.requires.some c.requires.below)
