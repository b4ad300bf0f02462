use Rattle.gram_form.specs.Trees.{PlainTree, plain_tree}
use Rattle.tree_pick.proofs.picking.pick_of.Goals as goal

pub returns-clause-one : goal.returns-clause-one
returns-clause-one c =
    let t : PlainTree = plain_tree c.in_ok-tree.tree.now in
    record { whole = c.in_ok-tree.ensures; only = λ u x. c.in_ok-is_ambiguous.ensures.one c.if-branch.false u t x c.in_ok-tree.ensures }
