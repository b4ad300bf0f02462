use Rattle.std.proofs.Common.{◌≡◌, drop, map, replicate, vec_len}
use Rattle.frame_layout.specs.Places.{frame_of, placed_node}
use Rattle.rv_codegen.specs.Aliases.{nowhere, put_frames}
use Rattle.rv_codegen.proofs.node_places.places_by_number.Given as goal

abbrev pub invariant-loop : goal.invariant-loop
invariant-loop l = record {
  len : vec_len l.list ≡ l.counter;
  none : map placed_node l.list.items ≡ replicate l.counter nowhere;
}

-- with the procedures that are left, all are put
abbrev pub invariant-loop-procedure : goal.invariant-loop-procedure
invariant-loop-procedure l = record {
  len : vec_len l.list ≡ l.count;
  rest : put_frames (map frame_of (drop l.procedure-index l.layout.procedures.now)) (map placed_node l.list.items) ≡ put_frames (map frame_of l.layout.procedures.now) (replicate l.count nowhere);
}
