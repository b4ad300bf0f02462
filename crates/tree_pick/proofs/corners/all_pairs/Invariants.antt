use Rattle.std.proofs.Common.{ℕ, take, Contains}
use Rattle.source_lex.specs.Numbered.{plain_numbered}
use Rattle.tree_pick.specs.declared.corners.Beginning.{Beginning}
use Rattle.tree_pick.specs.Corners.{HasFirsts}
use Rattle.tree_pick.proofs.corners.all_pairs.Given as goal

abbrev pub invariant-loop-p : goal.invariant-loop-p
invariant-loop-p l =
    let g = plain_numbered l.nonterminals in
    record {
      first : (n : ℕ) → HasFirsts g l.pairs.keys n n;
      worked : (x : Beginning) → Contains (take l.p l.pairs.keys) x → HasFirsts g l.pairs.keys x.first x.whole;
    }
