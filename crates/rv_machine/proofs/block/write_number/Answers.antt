use Rattle.rv_machine.proofs.MemoryLemmas.{holder-room, writes, writes-none}
use Rattle.rv_machine.proofs.block.write_number.Goals as goal

pub write_number-requires-clause-low : goal.write_number-requires-clause-low
write_number-requires-clause-low c =
    (holder-room c.args.blocks.now 2 c.args.address c.args.size c.in-Some.index c.index-blocks-index.result c.in-Some.ensures.is).low

pub write_number-requires-clause-high : goal.write_number-requires-clause-high
write_number-requires-clause-high c =
    (holder-room c.args.blocks.now 2 c.args.address c.args.size c.in-Some.index c.index-blocks-index.result c.in-Some.ensures.is).high

pub returns-in-None-clause-missing : goal.returns-in-None-clause-missing
returns-in-None-clause-missing c = writes-none c.args.blocks.now c.args.address c.args.size c.args.number c.in-None.ensures.is

pub returns-in-Some-clause-written : goal.returns-in-Some-clause-written
returns-in-Some-clause-written c =
    writes c.args.blocks.now c.args.address c.args.size c.args.number c.in-Some.index c.index-blocks-index.result c.write_number.new.self
    c.in-Some.ensures.below c.in-Some.ensures.is c.write_number.ensures
