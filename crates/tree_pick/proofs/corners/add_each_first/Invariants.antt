use Rattle.std.proofs.Common.{◌≡◌, ◌<◌, ◌∷◌, ℕ, slice_get, Some, Contains}
use Rattle.source_lex.specs.Numbered.{Alternative}
use Rattle.source_lex.specs.declared.numbered.Symbol.TheVariants.{Phrase}
use Rattle.chart_parse.specs.Places.{alternatives_in}
use Rattle.tree_pick.specs.Corners.{beginning}
use Rattle.tree_pick.specs.Longer.{IsLonger}
use Rattle.tree_pick.proofs.corners.add_each_first.Given as goal

abbrev pub invariant-loop-a : goal.invariant-loop-a
invariant-loop-a l = record {
  longer : IsLonger l.fn.pairs.keys l.pairs.keys;
  added : (a c : ℕ) (rest : Alternative) → a < l.a → slice_get (alternatives_in l.alternatives) a ≡ Some (Phrase c ∷ rest) → Contains l.pairs.keys (beginning c l.whole);
}
