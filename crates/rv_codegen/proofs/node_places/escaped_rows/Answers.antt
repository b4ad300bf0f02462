use Rattle.std.proofs.Common.{◌+◌, ◌++◌, ap, drop, map, ◌∙◌}
use Rattle.frame_layout.specs.Places.{PlacedNode, placed_node}
use Rattle.rv_codegen.specs.Aliases.{lists_of}
use Rattle.rv_codegen.proofs.PuttingPlaces.{rows-next, no_place}
use Rattle.rv_codegen.proofs.node_places.escaped_rows.Goals as goal

pub loop-place-preserved : goal.loop-place-preserved
loop-place-preserved c =
    ap (λ rs. lists_of rs ++ map (λ (n : PlacedNode). n.escaped) (map placed_node (drop (c.loop-place.place-index + 1) c.args.places.now))) c.in_ok-push.ensures.items
    ∙ rows-next c.args.places.now c.loop-place.rows.items c.loop-place.place-index no_place c.loop-place-test.true
    ∙ c.loop-place.invariant
