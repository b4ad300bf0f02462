use Rattle.std.proofs.Common.{◌≡◌, take}
use Rattle.rv_asm.specs.Assembly.{total}
use Rattle.rv_asm.proofs.resolve.total_words.Given as goal

abbrev pub invariant-loop-item : goal.invariant-loop-item
invariant-loop-item l = l.words ≡ total (take l.item-index l.items)
