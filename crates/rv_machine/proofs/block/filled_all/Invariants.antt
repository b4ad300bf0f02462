use Rattle.std.proofs.Common.{◌≡◌, map}
use Rattle.rv_code.specs.Images.{filled}
use Rattle.rv_machine.proofs.block.filled_all.Given as goal

abbrev pub invariant-loop-segment : goal.invariant-loop-segment
invariant-loop-segment l = l.blocks.items ≡ map filled l.yielded
