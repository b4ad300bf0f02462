use Rattle.action_terms.specs.Meaning.{action_of}
use Rattle.sort_rules.specs.Rows.{unmarked}
use Rattle.binding_capture.proofs.Found.{AreMarkedFrom}
use Rattle.binding_capture.proofs.capturing.marked.Given as goal

-- the last nodes have asked
abbrev pub invariant-loop-node : goal.invariant-loop-node
invariant-loop-node l = AreMarkedFrom (action_of l.graph) (unmarked l.table) l.node l.marked.items
