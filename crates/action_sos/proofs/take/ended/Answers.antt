use Rattle.action_sos.proofs.PerformerEnds.{going-tree}
use Rattle.action_sos.proofs.take.ended.Goals as goal

pub returns-then-branch-ne0-clause-going : goal.returns-then-branch-ne0-clause-going
returns-then-branch-ne0-clause-going c = going-tree c.args.branch.now c.requires (λ z e. c.if-branch-ne0.true)

pub returns-in-Run-clause-going : goal.returns-in-Run-clause-going
returns-in-Run-clause-going c = going-tree c.args.branch.now c.requires (λ z e. let i = c.in-Run.is in cc)

pub returns-in-Parts-clause-going : goal.returns-in-Parts-clause-going
returns-in-Parts-clause-going c = going-tree c.args.branch.now c.requires (λ z e. let i = c.in-Parts.is in cc)
