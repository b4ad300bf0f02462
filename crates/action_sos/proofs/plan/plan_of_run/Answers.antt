use Rattle.action_sos.proofs.PlanCounts.{run-room, run-within}
use Rattle.action_sos.proofs.PlanSteps.{run-plan, run-break}
use Rattle.action_sos.proofs.plan.plan_of_run.Goals as goal

pub count_of_node-count-requires-clause-there : goal.count_of_node-count-requires-clause-there
count_of_node-count-requires-clause-there c = run-within c.args.graph.now c.args.part c.args.node c.args.received c.requires.focus c.requires.sound

pub step_of_node-requires-clause-there : goal.step_of_node-requires-clause-there
step_of_node-requires-clause-there c = run-within c.args.graph.now c.args.part c.args.node c.args.received c.requires.focus c.requires.sound

pub returns-then-index-count-clause-plan : goal.returns-then-index-count-clause-plan
returns-then-index-count-clause-plan c w outside =
    run-plan c.args.graph.now c.args.part c.args.node c.args.received c.requires.focus w c.args.index c.in_ok-step.step.change c.in_ok-step.step.next (c.in_ok-step.ensures w outside)

pub plan_of_break-requires-clause-there : goal.plan_of_break-requires-clause-there
plan_of_break-requires-clause-there c =
    run-room c.args.graph.now c.args.part c.args.node c.args.received c.requires.focus c.args.outside c.count_of_node-count.result c.args.index c.requires.counted
    (c.count_of_node-count.ensures c.args.received) c.requires.open c.if-index-count.false

pub returns-clause-plan : goal.returns-clause-plan
returns-clause-plan c w outside =
    run-break c.args.graph.now c.args.part c.args.node c.args.received c.requires.focus w c.args.index c.count_of_node-count.result c.plan_of_break.result
    (c.count_of_node-count.ensures c.args.received w) c.if-index-count.false c.plan_of_break.ensures.plan
