use Rattle.std.proofs.Common.{map}
use Rattle.sort_rules.specs.Rows.{unmarked}
use Rattle.frame_layout.specs.Places.{placed_node}
use Rattle.frame_layout.proofs.Placing.{ArePlacedSo}
use Rattle.frame_layout.proofs.frames.procedure.Given as goal

-- the nodes so far are placed
abbrev pub invariant-loop-node : goal.invariant-loop-node
invariant-loop-node l = ArePlacedSo (unmarked l.table) l.front l.root l.nodes l.node-index l.out l.rest (map placed_node l.places.items)
