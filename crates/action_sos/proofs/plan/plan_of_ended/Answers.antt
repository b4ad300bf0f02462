use Rattle.std.proofs.Common.{◌≡◌, [], ◌∷◌, length, arith}
use Rattle.action_sos.specs.Views.{frame_of}
use Rattle.action_sos.specs.Moves.{ended_steps}
use Rattle.action_sos.proofs.CountedParts.{broken-less}
use Rattle.action_sos.proofs.PlanCounts.{ended-sound, ended-room, ended-bare}
use Rattle.action_sos.proofs.PlanSteps.{ended-plan, ended-break}
use Rattle.action_sos.proofs.plan.plan_of_ended.Goals as goal

pub unreachable-requires : goal.unreachable-requires
unreachable-requires c = ended-bare c.args.graph.now c.args.part c.args.end c.args.index c.requires.focus c.in_default.ensures.none c.requires.open

pub step_of_end-requires-clause-sound : goal.step_of_end-requires-clause-sound
step_of_end-requires-clause-sound c =
    ended-sound c.args.graph.now c.args.part c.in-Some.around c.in-Some.frame c.args.end c.requires.focus c.in-Some.ensures.frames c.requires.sound

pub step_of_end-requires-clause-open : goal.step_of_end-requires-clause-open
step_of_end-requires-clause-open c w =
    let sound = ended-sound c.args.graph.now c.args.part c.in-Some.around c.in-Some.frame c.args.end c.requires.focus c.in-Some.ensures.frames c.requires.sound in
    let all : c.count_of_end-count.result ≡ length (ended_steps c.args.graph.now c.in-Some.frame c.args.end w) = c.count_of_end-count.ensures.count c.args.graph.now w sound in
    omega (arith, all, c.if-index-count.true)

pub returns-then-index-count-clause-plan : goal.returns-then-index-count-clause-plan
returns-then-index-count-clause-plan c w =
    ended-plan c.args.graph.now c.args.part c.in-Some.around c.in-Some.frame c.args.end c.requires.focus c.in-Some.ensures.frames w c.args.index c.in_ok-step_of_end.field-0 (c.in_ok-step_of_end.ensures w)

pub plan_of_break-requires-clause-there : goal.plan_of_break-requires-clause-there
plan_of_break-requires-clause-there c =
    let sound = ended-sound c.args.graph.now c.args.part c.in-Some.around c.in-Some.frame c.args.end c.requires.focus c.in-Some.ensures.frames c.requires.sound in
    ended-room c.args.graph.now c.args.part c.in-Some.around c.in-Some.frame c.args.end c.requires.focus c.in-Some.ensures.frames c.count_of_end-count.result c.args.index c.in-Some.ensures.counted
    (λ w. c.count_of_end-count.ensures.count c.args.graph.now w sound) c.requires.open c.if-index-count.false

pub returns-clause-plan : goal.returns-clause-plan
returns-clause-plan c w =
    let sound = ended-sound c.args.graph.now c.args.part c.in-Some.around c.in-Some.frame c.args.end c.requires.focus c.in-Some.ensures.frames c.requires.sound in
    ended-break c.args.graph.now c.args.part c.in-Some.around c.in-Some.frame c.args.end c.requires.focus c.in-Some.ensures.frames w c.args.index c.count_of_end-count.result c.plan_of_break.result
    (c.count_of_end-count.ensures.count c.args.graph.now w sound) c.if-index-count.false c.plan_of_break.ensures.plan

pub returns-then-index-count-clause-kept : goal.returns-then-index-count-clause-kept
returns-then-index-count-clause-kept c = record {
  counted = c.in-Some.ensures.counted;
  fewer = broken-less c.args.part c.in-Some.around (frame_of c.in-Some.frame ∷ []) c.requires.counted c.in-Some.ensures.counted c.in-Some.ensures.frames;
}

pub returns-clause-kept : goal.returns-clause-kept
returns-clause-kept c = record {
  counted = c.plan_of_break.ensures.kept.counted;
  fewer = omega (
    arith,
    c.plan_of_break.ensures.kept.fewer,
    broken-less c.args.part c.in-Some.around (frame_of c.in-Some.frame ∷ []) c.requires.counted c.in-Some.ensures.counted c.in-Some.ensures.frames,
  );
}
