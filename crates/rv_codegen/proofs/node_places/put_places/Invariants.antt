use Rattle.std.proofs.Common.{◌≡◌, drop, map, vec_len}
use Rattle.frame_layout.specs.Places.{placed_node}
use Rattle.rv_codegen.specs.Aliases.{put_each}
use Rattle.rv_codegen.proofs.node_places.put_places.Given as goal

-- with the places that are left, they are all put
abbrev pub invariant-loop-place : goal.invariant-loop-place
invariant-loop-place l = record {
  len : vec_len l.list ≡ vec_len l.initial.list;
  rest : put_each (map placed_node (drop l.place-index l.places)) (map placed_node l.list.items) ≡ put_each (map placed_node l.places) (map placed_node l.initial.list.items);
}
