use Rattle.std.proofs.Common.{◌≡◌, ◌<◌, refl, arith}
use Rattle.action_sos.specs.Running.{step_count}
use Rattle.action_sos.proofs.NodeSteps.{at_most_two, choice_within, first_there, second_there}
use Rattle.action_sos.proofs.node_steps.step_of_node.Goals as goal

pub second_arm-requires : goal.second_arm-requires
second_arm-requires c =
    let less : c.args.choice < step_count c.view-view.result = choice_within c.args.graph.now c.args.node c.view-view.result c.view-view.ensures c.args.received c.args.outside c.args.choice c.requires.open in
    omega (arith, c.if-choice-eq0.false)

pub returns-then-choice-eq0 : goal.returns-then-choice-eq0
returns-then-choice-eq0 c =
    first_there c.args.graph.now c.args.node c.view-view.result c.view-view.ensures c.first_step.result _ c.args.choice refl c.if-choice-eq0.true c.first_step.ensures

pub returns-else-choice-eq0 : goal.returns-else-choice-eq0
returns-else-choice-eq0 c =
    let less : c.args.choice < step_count c.view-view.result = choice_within c.args.graph.now c.args.node c.view-view.result c.view-view.ensures c.args.received c.args.outside c.args.choice c.requires.open in
    let second : c.args.choice ≡ 1 = omega (arith, at_most_two c.view-view.result, c.if-choice-eq0.false) in
    second_there c.args.graph.now c.args.node c.view-view.result c.view-view.ensures c.second_arm.result _ c.args.choice refl second c.second_arm.ensures
