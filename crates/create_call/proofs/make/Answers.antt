use Rattle.rules.specs.Machine.{page_at}
use Rattle.rules.specs.Calls.{free_page, new_record}
use Rattle.rules.specs.Flat.{parted, memory_sized}
use Rattle.laws.proofs.FlatSteps.{length_pages}
use Rattle.create_call.proofs.Made.{made}
use Rattle.create_call.proofs.make.Goals as goal

pub new_record-v-requires : goal.new_record-v-requires
unfolding memory_sized
new_record-v-requires c = rw (length_pages c.args.table.now c.args.memory.now c.requires.sized) c.requires.fit

pub returns : goal.returns
unfolding parted new_record page_at free_page
returns c =
    let new = c.new_record-v.ensures c.args.i c.args.table.now c.requires.pool in
    made _ _ _ _ _ _ c.requires.pool c.mark_pages.ensures (rw (c.put_record.ensures, new))
