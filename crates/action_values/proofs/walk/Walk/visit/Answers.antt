use Rattle.std.proofs.Common.{◌<◌, ◌+◌, ◌-◌, ◌^◌, length, sym, ap, subst, reverse, arith}
use Rattle.std.specs.Prelude.{sum_by}
use Rattle.action_values.specs.Evaluation.{jobs_of, values_of, job_turns, turns}
use Rattle.action_values.proofs.Answered.{by_ok}
use Rattle.action_values.proofs.Visiting.{visit-past}
use Rattle.action_values.proofs.Turns.{opened-turns, power_one}
use Rattle.action_values.proofs.walk.Walk.visit.Goals as goal

pub returns-then-place-yielder_count-clause-value : goal.returns-then-place-yielder_count-clause-value
returns-then-place-yielder_count-clause-value c =
    sym (visit-past c.args.context.now c.args.number (jobs_of c.args.self.now) (values_of c.args.self.now) (omega arith))

pub returns-in_default-clause-turns : goal.returns-in_default-clause-turns
returns-in_default-clause-turns c going =
    let count = length c.args.context.now.graph.now.yielders in
    let within : c.args.number < count = omega arith in
    let P = λ (js : _). sum_by (job_turns count) js < 4 ^ (count - c.args.number) + turns c.args.context.now c.args.self.now in
    subst P (sym c.in_ok-open.ensures.jobs)
    (opened-turns count c.args.number within c.args.context.now.graph.now.yielders c.yielder_view-view.result c.yielder_view-view.ensures.arguments c.in_default.ensures.operation (jobs_of c.args.self.now))

pub returns-clause-turns : goal.returns-clause-turns
returns-clause-turns c =
    let count = length c.args.context.now.graph.now.yielders in
    let same = ap (λ l. sum_by (job_turns count) (reverse l)) c.keep.ensures.jobs in
    by_ok c.keep.result c.keep.ensures.values (λ going values t. omega (arith, same, power_one (count - c.args.number)))
