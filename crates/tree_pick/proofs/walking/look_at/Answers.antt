use Rattle.std.proofs.Common.{◌≡◌, ℕ, List, false, ◌+◌}
use Rattle.std.proofs.lemmas.Result.{on_ok_weaker}
use Rattle.tree_pick.specs.declared.phrases.Span.{Span}
use Rattle.tree_pick.specs.declared.phrases.Taken.{Taken}
use Rattle.tree_pick.specs.declared.phrases.Choice.{Choice}
use Rattle.tree_pick.specs.Spines.{Leafed}
use Rattle.tree_pick.specs.Longer.{IsLonger}
use Rattle.tree_pick.specs.Walk.{WorkedGrowth, WorkedSpan}
use Rattle.tree_pick.proofs.Walked.{parts_kept}
use Rattle.chart_parse.proofs.LeftCorners.{tree_within}
use Rattle.tree_pick.proofs.Longer.{longer_kept, longer_more}
use Rattle.tree_pick.proofs.Looked.{leaf_within, two_leaves, leaf_worked, not_true, not_false, both_ok}
use Rattle.tree_pick.proofs.walking.look_at.Goals as goal

pub returns-then-not-choice-clause-two : goal.returns-then-not-choice-clause-two
returns-then-not-choice-clause-two c = λ _.
    let gr = c.args.parse.now.grammar in
    let w = c.args.parse.now.kinds in
    let ch : Choice Taken = c.in_ok-choice.choice in
    two_leaves gr w c.args.phrase.nonterm c.args.phrase.start c.args.phrase.end ch c.in_ok-choice.ensures (not_true ch.only c.if-not-choice.true) c.requires.at

pub look_at_growth-requires-clause-at : goal.look_at_growth-requires-clause-at
look_at_growth-requires-clause-at c =
    let ch : Choice Taken = c.in_ok-choice.choice in
    Leafed ch.first.production ch.first.alternative ch.first.end c.requires.at c.in_ok-choice.ensures.0.0

pub look_at_growth-requires-clause-within : goal.look_at_growth-requires-clause-within
look_at_growth-requires-clause-within c =
    let gr = c.args.parse.now.grammar in
    let w = c.args.parse.now.kinds in
    let ch : Choice Taken = c.in_ok-choice.choice in (
      leaf_within gr w c.args.phrase.nonterm c.args.phrase.start c.args.phrase.end ch.first c.requires.within c.in_ok-choice.ensures.0,
      tree_within gr w c.args.phrase.nonterm c.args.phrase.start c.args.phrase.end c.requires.has.0 c.requires.within c.requires.has.1,
    )

pub returns-clause-longer : goal.returns-clause-longer
returns-clause-longer c = on_ok_weaker c.look_at_growth.result (λ h. longer_more c.args.seen.now.keys c.look_at_leaf.new.seen.keys c.look_at_growth.new.seen.keys c.in_ok-look_at_leaf.ensures.longer h) c.look_at_growth.ensures.longer

pub returns-clause-worked : goal.returns-clause-worked
returns-clause-worked c =
    let gr = c.args.parse.now.grammar in
    let w = c.args.parse.now.kinds in
    let ch : Choice Taken = c.in_ok-choice.choice in
    let S : List Span = c.look_at_leaf.new.seen.keys in
    let T : List Span = c.look_at_growth.new.seen.keys in
    let n : ℕ = c.args.phrase.nonterm in
    let i : ℕ = c.args.phrase.start in
    let j : ℕ = c.args.phrase.end in
    both_ok c.look_at_growth.result (IsLonger S T) (λ two. two ≡ false → WorkedGrowth gr w T n j ch.first.production ch.first.end) (λ two. two ≡ false → WorkedSpan gr w T n i j) c.look_at_growth.ensures.longer c.look_at_growth.ensures.worked
    (λ two more worked no. leaf_worked gr w T n i j ch c.in_ok-choice.ensures (not_false ch.only c.if-not-choice.false)
    (λ k rest e f. parts_kept gr w S T (longer_kept S T more) rest (i + 1) ch.first.end (c.in_ok-look_at_leaf.ensures.worked c.if-branch.false k rest e f))
    (worked no))
