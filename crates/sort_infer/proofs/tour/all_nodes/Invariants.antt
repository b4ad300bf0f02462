use Rattle.std.proofs.Common.{All, length, ℕ, ◌<◌}
use Rattle.action_terms.specs.Performances.{OneOf}
use Rattle.sort_infer.proofs.tour.all_nodes.Given as goal

-- nodes of the graph, and the first ones are there
abbrev pub invariant-loop-node : goal.invariant-loop-node
invariant-loop-node l = record { within : All (λ k. k < length l.graph.nodes) l.nodes.items; each : (k : ℕ) → k < l.node → OneOf k l.nodes.items }
