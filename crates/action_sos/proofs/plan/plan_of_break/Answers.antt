use Rattle.std.proofs.Common.{◌∷◌}
use Rattle.action_sos.specs.Views.{part_of}
use Rattle.action_sos.proofs.PlanSteps.{plan-broken}
use Rattle.action_sos.proofs.CountedParts.{broken-less}
use Rattle.action_sos.proofs.plan.plan_of_break.Goals as goal

pub returns-clause-plan : goal.returns-clause-plan
returns-clause-plan c = plan-broken (part_of c.args.part).frames c.args.index c.break_off.result.0 c.break_off.result.1 c.break_off.ensures.frames

pub returns-clause-kept : goal.returns-clause-kept
returns-clause-kept c =
    let off = c.break_off.ensures.frames in
    record {
      counted = c.break_off.ensures.counted;
      fewer = broken-less c.args.part c.break_off.result.0 (off.frame ∷ off.inner) c.requires.counted c.break_off.ensures.counted off.stands;
    }
