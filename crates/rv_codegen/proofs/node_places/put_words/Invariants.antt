use Rattle.std.proofs.Common.{◌≡◌, drop, map, vec_len}
use Rattle.frame_layout.specs.Places.{placed_node}
use Rattle.rv_codegen.specs.Aliases.{put_words}
use Rattle.rv_codegen.proofs.node_places.put_words.Given as goal

-- with the places that are left, the words are put at all of them
abbrev pub invariant-loop-place : goal.invariant-loop-place
invariant-loop-place l = record {
  len : vec_len l.list ≡ vec_len l.initial.list;
  rest : put_words (map placed_node (drop l.place-index l.places)) l.words l.list.items ≡ put_words (map placed_node l.places) l.words l.initial.list.items;
}
