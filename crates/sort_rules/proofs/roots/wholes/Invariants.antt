use Rattle.action_terms.specs.Meaning.{action_of}
use Rattle.sort_rules.specs.Filling.{AreWholes}
use Rattle.sort_rules.proofs.roots.wholes.Given as goal

-- the last nodes are written down
abbrev pub invariant-loop-k : goal.invariant-loop-k
invariant-loop-k l = AreWholes (action_of l.graph) l.k l.wholes.items
