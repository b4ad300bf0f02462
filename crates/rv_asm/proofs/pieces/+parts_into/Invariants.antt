-- One part fewer.
use Rattle.rv_asm.proofs.pieces.+parts_into.Given as goal

abbrev pub decreases-parts_into : goal.decreases-parts_into
decreases-parts_into l = l.parts
