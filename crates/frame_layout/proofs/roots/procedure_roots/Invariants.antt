use Rattle.std.proofs.Common.{◌≡◌}
use Rattle.std.specs.List.{range_with_len}
use Rattle.action_terms.specs.Meaning.{action_of}
use Rattle.frame_layout.proofs.ProcedureRoots.{AreRootsBelow}
use Rattle.frame_layout.proofs.roots.procedure_roots.Given as goal

-- each node so far, as its own root
abbrev pub invariant-loop-node : goal.invariant-loop-node
invariant-loop-node l = l.roots.items ≡ range_with_len 0 l.node

-- the parts of the nodes so far have their roots
abbrev pub invariant-loop-node-2 : goal.invariant-loop-node-2
invariant-loop-node-2 l = AreRootsBelow (action_of l.graph) l.node l.roots.items
