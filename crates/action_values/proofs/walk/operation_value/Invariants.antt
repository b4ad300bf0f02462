use Rattle.std.proofs.Common.{◌≡◌}
use Rattle.action_values.specs.Evaluation.{finished, jobs_of, values_of, value_at, turns}
use Rattle.action_values.proofs.walk.operation_value.Given as goal

abbrev pub invariant-loop-job : goal.invariant-loop-job
invariant-loop-job l = finished l.context (jobs_of l.walk) (values_of l.walk) ≡ value_at l.context l.number

abbrev pub decreases-loop-job : goal.decreases-loop-job
decreases-loop-job l = turns l.context l.walk
