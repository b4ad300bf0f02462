use Rattle.std.proofs.Common.{arith}
use Rattle.action_sos.specs.declared.moves.Received.{Received}
use Rattle.action_sos.proofs.PlanCounts.{run-count, run-bound, run-within, parent-count}
use Rattle.action_sos.proofs.plan.count_of_part.Goals as goal

pub count_of_node-requires-clause-there : goal.count_of_node-requires-clause-there
count_of_node-requires-clause-there c =
    let r : Received = record { given = c.in-Run.given; bound = c.in-Run.bound } in
    run-within c.args.graph.now c.args.part c.in-Run.node r c.in-Run.is c.requires.sound

pub overflow_add-result : goal.overflow_add-result
overflow_add-result c =
    let r : Received = record { given = c.in-Run.given; bound = c.in-Run.bound } in
    grind (arith, run-bound c.args.graph.now c.args.part c.in-Run.node r c.in-Run.is c.count_of_node.result (c.count_of_node.ensures r), c.requires.small)

pub returns-in-Run-clause-count : goal.returns-in-Run-clause-count
returns-in-Run-clause-count c w =
    let r : Received = record { given = c.in-Run.given; bound = c.in-Run.bound } in
    run-count c.args.graph.now c.args.part c.in-Run.node r c.in-Run.is w c.count_of_node.result c.requires.counted (c.count_of_node.ensures r w)

pub returns-in-Run-clause-bound : goal.returns-in-Run-clause-bound
returns-in-Run-clause-bound c =
    let r : Received = record { given = c.in-Run.given; bound = c.in-Run.bound } in
    run-bound c.args.graph.now c.args.part c.in-Run.node r c.in-Run.is c.count_of_node.result (c.count_of_node.ensures r)

pub returns-in-Parts-clause-count : goal.returns-in-Parts-clause-count
returns-in-Parts-clause-count c w = parent-count c.args.graph.now c.args.part c.in-Parts.node w c.in-Parts.is c.requires.counted
