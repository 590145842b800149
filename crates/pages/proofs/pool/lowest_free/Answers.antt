use Rattle.std.proofs.Common.{rules, tests}
use Rattle.std.proofs.lemmas.Iterator.{YieldsList-from_slice}
use Rattle.std.proofs.lemmas.Iterator.Search.{position_from_yields_List}
use Rattle.rules.specs.Calls.{is_free}
use Rattle.laws.proofs.Places.{place_or_length}
use Rattle.pages.proofs.pool.lowest_free.Goals as goal

pub returns-clause-lowest : goal.returns-clause-lowest
returns-clause-lowest c =
    let table = c.args.table.now in
    rw (position_from_yields_List is_free _ _ c.position.result c.position.ensures.ran (YieldsList-from_slice table (cc)) (λ x b q k. search (rules, tests))) (place_or_length is_free table)
