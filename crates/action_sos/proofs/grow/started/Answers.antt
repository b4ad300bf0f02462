use Rattle.std.proofs.Common.{◌∙◌, ap, sym, subst}
use Rattle.action_terms.specs.Meaning.{action_of}
use Rattle.action_terms.specs.Sound.{IsSoundTree}
use Rattle.action_sos.specs.Parts.{inside}
use Rattle.action_sos.specs.Views.{focus_of}
use Rattle.action_sos.specs.Moves.{running}
use Rattle.action_sos.proofs.grow.started.Goals as goal

pub leaf-requires-clause-leaf : goal.leaf-requires-clause-leaf
leaf-requires-clause-leaf c = (
  running c.args.node c.args.received,
  ap (λ r. r.focus) c.bare.ensures.part ∙ ap focus_of c.run.ensures,
  subst (λ fs. IsSoundTree (action_of c.args.graph.now) (inside fs (running c.args.node c.args.received))) (sym (ap (λ r. r.frames) c.bare.ensures.part)) c.requires.sound,
)

pub returns-clause-tree : goal.returns-clause-tree
returns-clause-tree c =
    c.leaf.ensures.tree (running c.args.node c.args.received) (ap (λ r. r.focus) c.bare.ensures.part ∙ ap focus_of c.run.ensures)
    ∙ ap (λ r. inside r.frames (running c.args.node c.args.received)) c.bare.ensures.part
