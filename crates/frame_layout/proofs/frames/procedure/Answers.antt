use Rattle.std.proofs.Common.{arith, map, sym, subst, ◌∷◌, ◌+◌, [], List}
use Rattle.std.proofs.lemmas.List.{map-append}
use Rattle.sort_rules.specs.Rows.{unmarked}
use Rattle.frame_layout.specs.declared.places.NodePlaces.{NodePlaces}
use Rattle.frame_layout.specs.Places.{PlacedNode, placed_node}
use Rattle.frame_layout.proofs.Placing.{ArePlacedSo, placing-more, placing-none}
use Rattle.frame_layout.proofs.frames.procedure.Goals as goal

pub overflow_add-rest : goal.overflow_add-rest
overflow_add-rest c = omega (arith, c.row_lengths-own.result.few, c.out_words.ensures.few, c.requires.few)

pub loop-node-init : goal.loop-node-init
loop-node-init c =
    let t = unmarked c.args.table.now in
    let own = c.row_lengths-own.result in
    subst (λ (ns : List NodePlaces). ArePlacedSo t c.args.front c.args.root c.args.nodes.now 0 (c.args.front + own.g + own.h) (c.args.front + own.g + own.h + c.out_words.result) (map placed_node ns)) (sym c.in_ok-places.ensures.items)
    (placing-none t c.args.front c.args.root c.args.nodes.now own c.out_words.result c.requires.front c.row_lengths-own.ensures c.out_words.ensures.words c.out_words.ensures.few)

pub loop-node-preserved : goal.loop-node-preserved
loop-node-preserved c =
    let t = unmarked c.args.table.now in
    let n : PlacedNode = placed_node c.in_ok-place.place in
    let more = placing-more t c.args.front c.args.root c.args.nodes.now c.loop-node.node-index c.loop-node.out c.loop-node.rest (map placed_node c.loop-node.places.items) c.row_lengths-lengths.result n
    c.loop-node-test.true c.row_lengths-lengths.ensures (c.in_ok-place.ensures t c.row_lengths-lengths.ensures) c.loop-node.invariant in
    let grown = map-append placed_node c.loop-node.places.items (c.in_ok-place.place ∷ []) in
    subst (λ (ns : List NodePlaces). ArePlacedSo t c.args.front c.args.root c.args.nodes.now (c.loop-node.node-index + 1) (c.loop-node.out + c.row_lengths-lengths.result.o) (n.keep + 8) (map placed_node ns)) (sym c.in_ok-push.ensures.items)
    (subst (ArePlacedSo t c.args.front c.args.root c.args.nodes.now (c.loop-node.node-index + 1) (c.loop-node.out + c.row_lengths-lengths.result.o) (n.keep + 8)) (sym grown) more)

pub overflow_add-rest-in-loop-node : goal.overflow_add-rest-in-loop-node
overflow_add-rest-in-loop-node c =
    let t = unmarked c.args.table.now in
    let more = placing-more t c.args.front c.args.root c.args.nodes.now c.loop-node.node-index c.loop-node.out c.loop-node.rest (map placed_node c.loop-node.places.items) c.row_lengths-lengths.result (placed_node c.in_ok-place.place)
    c.loop-node-test.true c.row_lengths-lengths.ensures (c.in_ok-place.ensures t c.row_lengths-lengths.ensures) c.loop-node.invariant in
    omega (arith, more.high, c.loop-node-test.true, c.requires.few)
