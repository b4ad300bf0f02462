use Rattle.std.proofs.Common.{◌+◌, ◌++◌, ap, drop, map, ◌∙◌}
use Rattle.frame_layout.specs.Places.{PlacedNode, placed_node}
use Rattle.rv_codegen.proofs.PuttingPlaces.{keeps-next, no_place}
use Rattle.rv_codegen.proofs.node_places.record_words.Goals as goal

pub loop-place-preserved : goal.loop-place-preserved
loop-place-preserved c =
    ap (λ ks. ks ++ map (λ (n : PlacedNode). n.keep) (map placed_node (drop (c.loop-place.place-index + 1) c.args.places.now))) c.in_ok-push.ensures.items
    ∙ keeps-next c.args.places.now c.loop-place.keeps.items c.loop-place.place-index no_place c.loop-place-test.true
    ∙ c.loop-place.invariant
