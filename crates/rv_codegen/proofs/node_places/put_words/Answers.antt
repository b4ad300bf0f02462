use Rattle.std.proofs.Common.{arith, get_or, ◌∙◌}
use Rattle.frame_layout.specs.Places.{placed_node}
use Rattle.rv_codegen.proofs.FrameWords.{words-next}
use Rattle.rv_codegen.proofs.PuttingPlaces.{member-at, no_place}
use Rattle.rv_codegen.proofs.node_places.put_words.Goals as goal

pub index_mut-requires : goal.index_mut-requires
index_mut-requires c =
    let i = c.loop-place.place-index in
    let below = c.requires (placed_node (get_or c.args.places.now i no_place)) (member-at placed_node c.args.places.now i no_place c.loop-place-test.true) in
    omega (arith, below, c.loop-place.invariant.len)

pub loop-place-preserved : goal.loop-place-preserved
loop-place-preserved c = record {
  len = c.loop-place.invariant.len;
  rest = words-next c.args.places.now c.args.words c.loop-place.list.items c.loop-place.place-index no_place c.loop-place-test.true ∙ c.loop-place.invariant.rest;
}
