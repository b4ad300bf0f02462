use Rattle.std.proofs.Common.{◌≡◌, ◌++◌, drop, map}
use Rattle.frame_layout.specs.Places.{PlacedNode, placed_node}
use Rattle.rv_codegen.specs.Aliases.{lists_of}
use Rattle.rv_codegen.proofs.node_places.escaped_rows.Given as goal

-- with the places that are left they are all
abbrev pub invariant-loop-place : goal.invariant-loop-place
invariant-loop-place l = lists_of l.rows.items ++ map (λ (n : PlacedNode). n.escaped) (map placed_node (drop l.place-index l.places)) ≡ map (λ (n : PlacedNode). n.escaped) (map placed_node l.places)
