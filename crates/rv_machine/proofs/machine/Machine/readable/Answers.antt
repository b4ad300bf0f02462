use Rattle.std.proofs.Common.{◌≡◌, Some}
use Rattle.rv_code.specs.Machine.{holder}
use Rattle.rv_machine.proofs.MemoryLemmas.{holder-room}
use Rattle.rv_machine.proofs.machine.Machine.readable.Goals as goal

pub lent-requires-clause-low : goal.lent-requires-clause-low
lent-requires-clause-low c =
    let is : Some c.in-Some.index ≡ holder c.self.inside.blocks.items 4 c.args.address c.args.size = rw c.as_slice.ensures.value at c.in-Some.ensures.is in
    let room = holder-room c.self.inside.blocks.items 4 c.args.address c.args.size c.in-Some.index c.index_mut.result.now is in
    rw c.index_mut.ensures.value room.low

pub lent-requires-clause-high : goal.lent-requires-clause-high
lent-requires-clause-high c =
    let is : Some c.in-Some.index ≡ holder c.self.inside.blocks.items 4 c.args.address c.args.size = rw c.as_slice.ensures.value at c.in-Some.ensures.is in
    let room = holder-room c.self.inside.blocks.items 4 c.args.address c.args.size c.in-Some.index c.index_mut.result.now is in
    rw c.index_mut.ensures.value room.high
