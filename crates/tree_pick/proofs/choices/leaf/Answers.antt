use Rattle.std.proofs.Common.{◌<◌, List, length, Contains, sym, subst}
use Rattle.std.specs.Prelude.{◌↔◌}
use Rattle.tree_pick.specs.declared.phrases.Taken.{Taken}
use Rattle.tree_pick.specs.Choices.{CanLeaf}
use Rattle.chart_parse.proofs.LeftCorners.{tree_within}
use Rattle.tree_pick.proofs.LeftParts.{has_leaf}
use Rattle.tree_pick.proofs.FollowedParts.{choice_of}
use Rattle.tree_pick.proofs.FoundChoices.{some_long}
use Rattle.tree_pick.proofs.choices.leaf.Goals as goal

pub first_of-requires : goal.first_of-requires
first_of-requires c =
    let x = has_leaf c.args.parse.now.grammar c.args.parse.now.kinds c.args.phrase.nonterm c.args.phrase.start c.args.phrase.end c.requires.has in
    subst (λ (l : List Taken). 0 < length l) (sym c.deref.ensures.value) (some_long c.in_ok-found.found.items x.0 ((c.in_ok-found.ensures x.0).1 x.1))

pub returns : goal.returns
returns c =
    let gr = c.args.parse.now.grammar in
    let w = c.args.parse.now.kinds in
    choice_of (λ x. Contains c.deref.result.now x) (CanLeaf gr w c.args.phrase.nonterm c.args.phrase.start c.args.phrase.end) c.first_of.result
    (λ x. subst (λ (l : List Taken). Contains l x ↔ CanLeaf gr w c.args.phrase.nonterm c.args.phrase.start c.args.phrase.end x) (sym c.deref.ensures.value) (c.in_ok-found.ensures x))
    c.first_of.ensures

pub all_taken-requires-clause-end : goal.all_taken-requires-clause-end
all_taken-requires-clause-end c = tree_within c.args.parse.now.grammar c.args.parse.now.kinds c.args.phrase.nonterm c.args.phrase.start c.args.phrase.end c.requires.has.0 c.requires.within c.requires.has.1
