-- What was appended is the copy of the words so far.
use Rattle.std.proofs.Common.{◌≡◌}
use Rattle.rv_asm.specs.Pieces.{appended, copy_words}
use Rattle.rv_asm.proofs.pieces.copy_words.Given as goal

abbrev pub invariant-loop-i : goal.invariant-loop-i
invariant-loop-i l = l.asm ≡ appended l.initial.asm (copy_words l.i l.scratch l.source l.from l.target l.to)
