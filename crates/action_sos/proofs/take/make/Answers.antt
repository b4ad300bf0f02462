use Rattle.std.proofs.Common.{ap, sym, subst, arith}
use Rattle.action_terms.specs.Meaning.{action_of}
use Rattle.action_terms.specs.Steps.{open_steps}
use Rattle.action_terms.proofs.SoundStates.{sound-tree}
use Rattle.action_sos.specs.Views.{part_of}
use Rattle.action_sos.specs.Moves.{effect_of, IsStepAt}
use Rattle.action_sos.specs.Plans.{IsSoundPart}
use Rattle.action_sos.specs.Performed.{world_of}
use Rattle.action_sos.specs.Branches.{grown}
use Rattle.action_sos.specs.Taking.{AreJoined}
use Rattle.action_sos.specs.declared.branch.Branch.{out-Branch}
use Rattle.action_sos.proofs.Joining.{grown-counted}
use Rattle.action_sos.proofs.Placing.{outer-one}
use Rattle.action_sos.proofs.Taking.{own-sound, own-broken, own-there, way-step, step-sound}
use Rattle.action_sos.proofs.take.make.Goals as goal

pub plan_of_part-requires-clause-sound : goal.plan_of_part-requires-clause-sound
plan_of_part-requires-clause-sound c =
    let a = action_of c.args.graph.now in
    subst (λ b. IsSoundPart a (part_of (out-Branch b).part)) (sym c.deref-2.ensures)
    (own-sound a c.args.path.now.branch.value c.requires.reached.grows (sound-tree a _ c.requires.proper c.requires.sound))

pub plan_of_part-requires-clause-open : goal.plan_of_part-requires-clause-open
plan_of_part-requires-clause-open c w outside =
    own-there (action_of c.args.graph.now) (world_of c.args.world.now) w c.args.path.now.branch.value c.deref.result.now c.deref-2.result.now c.args.path.now.index c.own_index-index.result
    c.deref.ensures c.deref-2.ensures c.requires.reached.grows c.requires.ends c.own_index-index.ensures c.requires.open

pub after_step-requires-clause-sound : goal.after_step-requires-clause-sound
after_step-requires-clause-sound c =
    let a = action_of c.args.graph.now in
    let w = world_of c.args.world.now in
    let b = c.args.path.now.branch.value in
    step-sound a w (grown b) _ c.args.path.now.index (effect_of c.in_ok-plan.plan.change) c.requires.proper c.requires.sound
    (way-step a w b c.deref.result.now c.deref-2.result.now c.args.path.now.index c.own_index-index.result c.in_ok-plan.plan
    c.deref.ensures c.deref-2.ensures c.requires.reached.grows c.requires.ends c.own_index-index.ensures (c.in_ok-plan.ensures.plan w c.outside.ensures))

pub after_step-requires-clause-small : goal.after_step-requires-clause-small
after_step-requires-clause-small c =
    omega (
      arith,
      c.in_ok-plan.ensures.kept.fewer,
      ap (λ b. (out-Branch b).part.broken) c.deref-2.ensures,
      own-broken (action_of c.args.graph.now) c.args.path.now.branch.value c.requires.reached.grows,
      c.requires.reached.few,
    )

pub joined-requires : goal.joined-requires
joined-requires c = record {
  counted = grown-counted (action_of c.args.graph.now) c.in_ok-branch.branch c.in_ok-branch.ensures.grows;
  outer = λ o e. outer-one (action_of c.args.graph.now) c.args.path.now.branch.value c.args.path.now.around o c.requires.reached e;
}

pub returns-clause-made : goal.returns-clause-made
returns-clause-made c =
    let a = action_of c.args.graph.now in
    let w = world_of c.args.world.now in
    let b = c.args.path.now.branch.value in
    record {
      effect = effect_of c.in_ok-plan.plan.change;
      step = subst (IsStepAt (open_steps a w (grown b)) c.args.path.now.index (effect_of c.in_ok-plan.plan.change)) (sym c.in_ok-branch.ensures.tree)
          (way-step a w b c.deref.result.now c.deref-2.result.now c.args.path.now.index c.own_index-index.result c.in_ok-plan.plan
          c.deref.ensures c.deref-2.ensures c.requires.reached.grows c.requires.ends c.own_index-index.ensures (c.in_ok-plan.ensures.plan w c.outside.ensures));
      commits = c.does_commit.ensures;
      world = c.in_ok-change.ensures.changed;
      grows = c.in_ok-branch.ensures.grows;
    }

pub returns-clause-fits : goal.returns-clause-fits
returns-clause-fits c = record {
  action = action_of c.args.graph.now;
  reached = c.requires.reached;
  few = omega (
    arith,
    c.in_ok-branch.ensures.few,
    c.in_ok-plan.ensures.kept.fewer,
    ap (λ b. (out-Branch b).part.broken) c.deref-2.ensures,
    own-broken (action_of c.args.graph.now) c.args.path.now.branch.value c.requires.reached.grows,
  );
  joined = subst (λ q. AreJoined q c.args.path.now.around c.in_ok-branch.branch c.in_ok-joined.joined) (sym c.does_commit.ensures) c.in_ok-joined.ensures;
}
