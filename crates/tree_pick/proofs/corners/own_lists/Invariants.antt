use Rattle.tree_pick.specs.Corners.{AreLists, HaveOwn}
use Rattle.tree_pick.proofs.corners.own_lists.Given as goal

abbrev pub invariant-loop-n : goal.invariant-loop-n
invariant-loop-n l = record {
  lists : AreLists l.n l.lists.items;
  own : HaveOwn l.n l.lists.items;
}
