use Rattle.rv_machine.proofs.MemoryLemmas.{can-read, cannot-read}
use Rattle.rv_machine.proofs.block.can_read.Goals as goal

pub returns : goal.returns
returns c = record {
  yes = rw c.is_some.ensures (can-read c.args.blocks.now c.args.address c.args.size c.find.result c.find.ensures.is);
  no = rw c.is_some.ensures (cannot-read c.args.blocks.now c.args.address c.args.size c.find.result c.find.ensures.is);
}
