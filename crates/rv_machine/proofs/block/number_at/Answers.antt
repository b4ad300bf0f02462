use Rattle.rv_machine.proofs.MemoryLemmas.{holder-room}
use Rattle.rv_machine.proofs.block.number_at.Goals as goal

pub number_at-requires-clause-low : goal.number_at-requires-clause-low
number_at-requires-clause-low c =
    rw c.index-blocks-index.is (holder-room c.args.blocks.now c.args.flag c.args.address c.args.size c.in-Some.index c.index-blocks-index.result c.in-Some.ensures.is).low

pub number_at-requires-clause-high : goal.number_at-requires-clause-high
number_at-requires-clause-high c =
    rw c.index-blocks-index.is (holder-room c.args.blocks.now c.args.flag c.args.address c.args.size c.in-Some.index c.index-blocks-index.result c.in-Some.ensures.is).high
