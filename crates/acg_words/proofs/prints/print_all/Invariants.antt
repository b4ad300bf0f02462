use Rattle.std.proofs.Common.{◌≡◌, take, ℕ, List, Bor}
use Rattle.std.specs.List.{flat_map}
use Rattle.acg_words.specs.Prints.{Took, writes_behind}
use Rattle.acg_words.proofs.prints.print_all.Given as goal

abbrev pub invariant-loop-piece : goal.invariant-loop-piece
invariant-loop-piece g l = record {
  took : Took g.K.Sink (flat_map (λ (x : Bor (List ℕ)). x.now) (take l.piece-index l.pieces)) l.fn.out l.out;
  writes : g.K.Sink.writes l.out ≡ writes_behind l.piece-index (g.K.Sink.writes l.fn.out);
}
