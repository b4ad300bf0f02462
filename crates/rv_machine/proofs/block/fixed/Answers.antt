use Rattle.rv_machine.proofs.MemoryLemmas.{holder-room}
use Rattle.rv_machine.proofs.block.fixed.Goals as goal

pub number_at-requires-clause-low : goal.number_at-requires-clause-low
number_at-requires-clause-low c =
    let room = holder-room c.args.blocks.now 1 c.args.address 4 c.in_ok-index.index c.index-blocks-index.result c.in_ok-index.ensures.is in
    rw c.index-blocks-index.is room.low

pub number_at-requires-clause-high : goal.number_at-requires-clause-high
number_at-requires-clause-high c =
    let room = holder-room c.args.blocks.now 1 c.args.address 4 c.in_ok-index.index c.index-blocks-index.result c.in_ok-index.ensures.is in
    rw c.index-blocks-index.is room.high
