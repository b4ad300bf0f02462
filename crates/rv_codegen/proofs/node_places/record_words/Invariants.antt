use Rattle.std.proofs.Common.{◌≡◌, ◌++◌, drop, map}
use Rattle.frame_layout.specs.Places.{PlacedNode, placed_node}
use Rattle.rv_codegen.proofs.node_places.record_words.Given as goal

-- with the places that are left they are all
abbrev pub invariant-loop-place : goal.invariant-loop-place
invariant-loop-place l = l.keeps.items ++ map (λ (n : PlacedNode). n.keep) (map placed_node (drop l.place-index l.places)) ≡ map (λ (n : PlacedNode). n.keep) (map placed_node l.places)
