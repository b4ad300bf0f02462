use Rattle.std.proofs.Common.{◌<◌, ℕ}
use Rattle.source_lex.specs.Numbered.{plain_numbered}
use Rattle.tree_pick.specs.Corners.{HasFirsts}
use Rattle.tree_pick.proofs.corners.first_corners.Given as goal

abbrev pub invariant-loop-n : goal.invariant-loop-n
invariant-loop-n l = (m : ℕ) → m < l.n → HasFirsts (plain_numbered l.nonterminals) l.pairs.keys m m
