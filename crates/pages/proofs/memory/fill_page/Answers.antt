-- The part that was lent comes back as zeros, in the page's place.
use mathlib.Core.Path.{◌≡◌, ◌∙◌, ap}
use Prim.Native.Nat.{◌+◌, ◌-◌, ◌*◌}
use native.Mathlib.Omega.{arith}
use borrow.Rule.Slice.PartMut.{mid_len}
use Rattle.rules.specs.Words.{page_size}
use Rattle.rules.specs.Machine.{zeros}
use Rattle.laws.proofs.Numbers.{length_zeros}
use Rattle.laws.proofs.Parts.{parts_put}
use Rattle.pages.proofs.Within.{positive, page_ends}
use Rattle.pages.proofs.memory.fill_page.Goals as goal

pub overflow_mul-start : goal.overflow_mul-start
unfolding page_size
overflow_mul-start c = omega (arith, page_ends c.args.memory.now c.args.page c.requires)

pub overflow_add-start : goal.overflow_add-start
unfolding page_size
overflow_add-start c = omega (arith, page_ends c.args.memory.now c.args.page c.requires)

pub slice_bounds-fill-end : goal.slice_bounds-fill-end
unfolding page_size
slice_bounds-fill-end c = omega (arith, page_ends c.args.memory.now c.args.page c.requires)

pub returns : goal.returns
unfolding page_size zeros
returns c =
    let memory = c.args.memory.now in
    let page = c.args.page in
    let ends = page_ends memory page c.requires in
    let size : page_size * page + page_size - page_size * page ≡ page_size = omega arith in
    let filled = c.fill.ensures ∙ ap zeros (mid_len (page_size * page) (page_size * page + page_size) memory ends ∙ size) in
    rw (filled, size) (parts_put page_size memory page (zeros page_size) positive c.requires (length_zeros page_size))
