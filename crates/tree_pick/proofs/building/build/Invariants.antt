use Rattle.tree_pick.specs.Built.{HaveTrees, AreTrees}
use Rattle.tree_pick.proofs.building.build.Given as goal

abbrev pub invariant-loop : goal.invariant-loop
invariant-loop l =
    let gr = l.parse.grammar in
    let w = l.parse.kinds in
    record {
      stack : HaveTrees gr w l.stack.items;
      built : AreTrees gr w l.built;
    }
