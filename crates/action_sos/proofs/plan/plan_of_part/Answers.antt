use Rattle.std.proofs.Common.{◌<◌, List, length, subst}
use Rattle.std.proofs.lemmas.Result.{IfOk-weaker}
use Rattle.action_terms.specs.Meaning.{action_of}
use Rattle.action_terms.specs.Information.{World}
use Rattle.action_terms.specs.Steps.{Step}
use Rattle.action_sos.specs.Parts.{part_steps}
use Rattle.action_sos.specs.Views.{part_of}
use Rattle.action_sos.specs.Moves.{IsOutside}
use Rattle.action_sos.specs.Plans.{IsPlan}
use Rattle.action_sos.proofs.PartWorlds.{world_of, IsOutside-world_of, ended-world}
use Rattle.action_sos.proofs.PlanCounts.{parent-room}
use Rattle.action_sos.proofs.plan.plan_of_part.Goals as goal

pub plan_of_ended-requires-clause-open : goal.plan_of_ended-requires-clause-open
plan_of_ended-requires-clause-open c w =
    subst (λ l. c.args.index < length l) (ended-world (action_of c.args.graph.now) (world_of c.args.outside) w c.args.part c.in-Ended.end c.in-Ended.is)
    (c.requires.open (world_of c.args.outside) (IsOutside-world_of c.args.outside))

pub plan_of_break-requires-clause-there : goal.plan_of_break-requires-clause-there
plan_of_break-requires-clause-there c = parent-room c.args.graph.now c.args.part c.in-Parts.node c.args.outside c.args.index c.in-Parts.is c.requires.counted c.requires.open

pub returns-in-Ended-clause-plan : goal.returns-in-Ended-clause-plan
returns-in-Ended-clause-plan c =
    let steps : World → List Step = λ w. part_steps (action_of c.args.graph.now) w (part_of c.args.part) in
    IfOk-weaker c.plan_of_ended.result (λ plan. (w : World) → IsPlan (steps w) c.args.index plan) (λ plan. (w : World) → IsOutside c.args.outside w → IsPlan (steps w) c.args.index plan)
    (λ plan all w outside. all w) c.plan_of_ended.ensures.plan
