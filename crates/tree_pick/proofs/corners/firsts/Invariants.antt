use Rattle.std.proofs.Common.{take, Contains}
use Rattle.tree_pick.specs.declared.corners.Beginning.{Beginning}
use Rattle.tree_pick.specs.Corners.{AreLists, HaveOwn, HasFirst}
use Rattle.tree_pick.proofs.corners.firsts.Given as goal

abbrev pub invariant-loop-p : goal.invariant-loop-p
invariant-loop-p l = record {
  lists : AreLists l.count l.lists.items;
  own : HaveOwn l.count l.lists.items;
  firsts : (x : Beginning) → Contains (take l.p l.pairs.keys) x → HasFirst l.count l.lists.items x;
}
