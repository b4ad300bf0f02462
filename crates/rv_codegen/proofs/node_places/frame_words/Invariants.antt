use Rattle.std.proofs.Common.{◌≡◌, drop, map, replicate, vec_len}
use Rattle.frame_layout.specs.Places.{frame_of}
use Rattle.rv_codegen.specs.Aliases.{put_frame_words}
use Rattle.rv_codegen.proofs.node_places.frame_words.Given as goal

-- with the procedures that are left, the words of all are put
abbrev pub invariant-loop-procedure : goal.invariant-loop-procedure
invariant-loop-procedure l = record {
  len : vec_len l.list ≡ l.count;
  rest : put_frame_words (map frame_of (drop l.procedure-index l.layout.procedures.now)) l.list.items ≡ put_frame_words (map frame_of l.layout.procedures.now) (replicate l.count 0);
}
