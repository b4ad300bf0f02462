use Rattle.std.proofs.Common.{◌≤◌, IfSome, length}
use Rattle.tree_pick.specs.Spines.{CanGrow}
use Rattle.tree_pick.specs.Built.{HaveTrees, IsTreeOf}
use Rattle.tree_pick.proofs.building.build_phrase.Given as goal

abbrev pub invariant-loop : goal.invariant-loop
invariant-loop l =
    let gr = l.parse.grammar in
    let w = l.parse.kinds in
    record {
      can : CanGrow gr w l.phrase.nonterm l.phrase.end l.from l.at;
      within : l.at ≤ length w;
      stack : HaveTrees gr w l.stack.items;
      tree : IfSome l.tree (λ t. IsTreeOf gr w l.from l.phrase.start l.at t.now);
    }
