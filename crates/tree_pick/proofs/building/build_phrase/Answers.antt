use Rattle.std.proofs.Common.{Some, subst}
use Rattle.chart_parse.proofs.LeftCorners.{tree_within}
use Rattle.tree_pick.specs.declared.phrases.Taken.{Taken}
use Rattle.tree_pick.specs.Choices.{CanStep}
use Rattle.tree_pick.proofs.Looked.{leaf_within, step_within}
use Rattle.tree_pick.proofs.building.build_phrase.Goals as goal

pub loop-init : goal.loop-init
loop-init c =
    let leaf : Taken = c.in_ok-leaf.field-0.first in
    record {
      can = c.in_ok-leaf.ensures.0.1;
      within = leaf_within c.args.parse.now.grammar c.args.parse.now.kinds c.args.phrase.nonterm c.args.phrase.start c.args.phrase.end leaf c.requires.within c.in_ok-leaf.ensures.0;
      stack = c.in_ok-tree.ensures.stack;
      tree = c.in_ok-tree.ensures.tree;
    }

pub step-requires-clause-places : goal.step-requires-clause-places
step-requires-clause-places c =
    (c.loop.invariant.within, tree_within c.args.parse.now.grammar c.args.parse.now.kinds c.args.phrase.nonterm c.args.phrase.start c.args.phrase.end c.requires.has.0 c.requires.within c.requires.has.1)

pub loop-preserved : goal.loop-preserved
loop-preserved c =
    let gr = c.args.parse.now.grammar in
    let w = c.args.parse.now.kinds in
    let s : Taken = c.in-Some.step in
    let fits : CanStep gr w c.args.phrase.nonterm c.args.phrase.end c.loop.from c.loop.at (Some s) = subst (CanStep gr w c.args.phrase.nonterm c.args.phrase.end c.loop.from c.loop.at) c.in-Some.is c.in_ok-step.ensures.0 in
    record {
      can = fits.1;
      within = step_within gr w c.loop.from c.loop.at s.production s.alternative s.end c.loop.invariant.within fits.0;
      stack = c.in_ok-tree-2.ensures.stack;
      tree = c.in_ok-tree-2.ensures.tree;
    }
