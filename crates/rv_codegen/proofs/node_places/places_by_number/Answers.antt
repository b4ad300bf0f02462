use Rattle.std.proofs.Common.{arith, get_or, map, ◌∙◌}
use Rattle.frame_layout.specs.Places.{frame_of, placed_node}
use Rattle.rv_codegen.proofs.PuttingPlaces.{member-at, no_procedure, put-procedure}
use Rattle.rv_codegen.proofs.node_places.places_by_number.Goals as goal

pub put_places-requires : goal.put_places-requires
put_places-requires c = λ n m.
    let i = c.loop-procedure.procedure-index in
    let below = c.requires (frame_of (get_or c.args.layout.now.procedures.now i no_procedure)) n (member-at frame_of c.args.layout.now.procedures.now i no_procedure c.loop-procedure-test.true) m in
    omega (arith, below, c.loop-procedure.invariant.len)

pub loop-procedure-preserved : goal.loop-procedure-preserved
loop-procedure-preserved c = record {
  len = c.put_places.ensures.len ∙ c.loop-procedure.invariant.len;
  rest = put-procedure c.args.layout.now.procedures.now (map placed_node c.loop-procedure.list.items) (map placed_node c.put_places.new.list.items) c.loop-procedure.procedure-index no_procedure c.loop-procedure-test.true c.put_places.ensures.places ∙ c.loop-procedure.invariant.rest;
}
