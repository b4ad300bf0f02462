use Rattle.std.proofs.Common.{◌++◌, ◌≡◌, drop}
use Rattle.action_terms.specs.Meaning.{action_of}
use Rattle.sort_rules.specs.Demands.{allocate_nodes, allocates_from}
use Rattle.sort_rules.proofs.named.cells_of.Given as goal

-- with those that are left they are all
abbrev pub invariant-loop-node : goal.invariant-loop-node
invariant-loop-node l = l.cells.items ++ allocates_from l.node (drop l.node (action_of l.graph)) ≡ allocate_nodes (action_of l.graph)
