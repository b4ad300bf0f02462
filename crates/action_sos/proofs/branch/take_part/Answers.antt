use Rattle.std.proofs.Common.{refl, arith}
use Rattle.action_sos.proofs.Climbing.{taken}
use Rattle.action_sos.proofs.branch.take_part.Goals as goal

pub returns : goal.returns
returns c = taken c.args.branch.now c.args.part _ _ _ refl (grind (arith, c.requires.more)) refl refl refl refl refl refl
