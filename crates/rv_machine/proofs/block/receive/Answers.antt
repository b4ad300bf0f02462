use Rattle.std.proofs.Common.{arith}
use Rattle.rv_machine.proofs.MemoryLemmas.{holder-room}
use Rattle.rv_machine.proofs.block.receive.Goals as goal

pub receive-requires-clause-low : goal.receive-requires-clause-low
receive-requires-clause-low c =
    (holder-room c.args.blocks.now 2 c.args.address c.args.size c.in-Some.index c.index-blocks-index.result c.in-Some.ensures.is).low

pub receive-requires-clause-high : goal.receive-requires-clause-high
receive-requires-clause-high c =
    let room = holder-room c.args.blocks.now 2 c.args.address c.args.size c.in-Some.index c.index-blocks-index.result c.in-Some.ensures.is in
    omega (arith, room.high, c.min-count.ensures)
