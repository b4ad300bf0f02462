use Rattle.std.proofs.Common.{ℕ, List, Some, Option, subst}
use Rattle.tree_pick.specs.declared.phrases.Span.{Span}
use Rattle.tree_pick.specs.declared.phrases.Taken.{Taken}
use Rattle.tree_pick.specs.declared.phrases.Choice.{Choice}
use Rattle.tree_pick.specs.Spines.{Grown}
use Rattle.tree_pick.specs.Choices.{CanStep}
use Rattle.tree_pick.proofs.Walked.{parts_kept}
use Rattle.tree_pick.proofs.Longer.{longer_kept, longer_more}
use Rattle.tree_pick.proofs.Looked.{two_steps, stay_worked, step_worked, step_within, not_true, not_false}
use Rattle.tree_pick.proofs.walking.look_at_growth.Goals as goal

pub returns-then-not-choice-clause-two : goal.returns-then-not-choice-clause-two
returns-then-not-choice-clause-two c = λ _.
    let gr = c.args.parse.now.grammar in
    let w = c.args.parse.now.kinds in
    let ch : Choice (Option Taken) = c.in_ok-choice.choice in
    two_steps gr w c.args.phrase.nonterm c.args.phrase.end c.loop.from c.loop.at ch c.in_ok-choice.ensures (not_true ch.only c.if-not-choice.true) c.loop.invariant.at

pub returns-in_default-clause-worked : goal.returns-in_default-clause-worked
returns-in_default-clause-worked c = λ no.
    let gr = c.args.parse.now.grammar in
    let w = c.args.parse.now.kinds in
    let ch : Choice (Option Taken) = c.in_ok-choice.choice in
    let S : List Span = c.loop.seen.keys in
    c.loop.invariant.worked S (λ x y. y) (stay_worked gr w S c.args.phrase.nonterm c.args.phrase.end c.loop.from c.loop.at ch c.in_ok-choice.ensures (not_false ch.only c.if-not-choice.false) c.in_default.is)

pub loop-preserved : goal.loop-preserved
loop-preserved c =
    let gr = c.args.parse.now.grammar in
    let w = c.args.parse.now.kinds in
    let ch : Choice (Option Taken) = c.in_ok-choice.choice in
    let s : Taken = c.in-Some.step in
    let n : ℕ = c.args.phrase.nonterm in
    let j : ℕ = c.args.phrase.end in
    let S : List Span = c.loop.seen.keys in
    let T : List Span = c.look_at_step.new.seen.keys in
    let fits : CanStep gr w n j c.loop.from c.loop.at (Some s) = subst (CanStep gr w n j c.loop.from c.loop.at) c.in-Some.is c.in_ok-choice.ensures.0 in
    record {
      at = Grown s.production s.alternative s.end c.loop.invariant.at fits.0;
      can = fits.1;
      within = step_within gr w c.loop.from c.loop.at s.production s.alternative s.end c.loop.invariant.within fits.0;
      reached = c.in_ok-look_at_step.ensures.reached;
      longer = longer_more c.args.seen.now.keys S T c.loop.invariant.longer c.in_ok-look_at_step.ensures.longer;
      worked = λ U kept more. c.loop.invariant.worked U (λ x h. kept x (longer_kept S T c.in_ok-look_at_step.ensures.longer x h))
          (step_worked gr w U n j c.loop.from c.loop.at ch s c.in_ok-choice.ensures (not_false ch.only c.if-not-choice.false) c.in-Some.is
          (λ rest e. parts_kept gr w T U kept rest c.loop.at s.end (c.in_ok-look_at_step.ensures.worked c.if-branch.false rest e)) more);
    }
