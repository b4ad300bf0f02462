use Rattle.action_terms.specs.Meaning.{action_of}
use Rattle.binding_capture.proofs.Holding.{AreHolders}
use Rattle.binding_capture.proofs.holders.holders.Given as goal

-- the last nodes are written down
abbrev pub invariant-loop-node : goal.invariant-loop-node
invariant-loop-node l = AreHolders (action_of l.graph) l.node l.holders.items
