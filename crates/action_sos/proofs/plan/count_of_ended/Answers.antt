use Rattle.std.proofs.Common.{arith}
use Rattle.action_sos.proofs.PlanCounts.{ended-sound, ended-count, ended-bound}
use Rattle.action_sos.proofs.plan.count_of_ended.Goals as goal

pub overflow_add-result : goal.overflow_add-result
overflow_add-result c =
    grind (arith, ended-bound c.args.part c.in-Some.around c.in-Some.frame c.count_of_end.result c.requires.counted c.in-Some.ensures.counted c.in-Some.ensures.frames c.count_of_end.ensures.bound, c.requires.small)

pub returns-in-Some-clause-count : goal.returns-in-Some-clause-count
returns-in-Some-clause-count c g w sound =
    let p = c.args.part in
    let outer = c.in-Some.around in
    let f = c.in-Some.frame in
    ended-count g p outer f c.args.end c.requires.focus c.in-Some.ensures.frames w c.count_of_end.result c.in-Some.ensures.counted
    (c.count_of_end.ensures.count g w (ended-sound g p outer f c.args.end c.requires.focus c.in-Some.ensures.frames sound))

pub returns-in-Some-clause-bound : goal.returns-in-Some-clause-bound
returns-in-Some-clause-bound c =
    ended-bound c.args.part c.in-Some.around c.in-Some.frame c.count_of_end.result c.requires.counted c.in-Some.ensures.counted c.in-Some.ensures.frames c.count_of_end.ensures.bound
