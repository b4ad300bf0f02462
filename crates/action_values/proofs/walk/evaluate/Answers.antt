use Rattle.std.proofs.Common.{sym, ap, arith}
use Rattle.action_terms.proofs.ItemsAt.{item_at-past}
use Rattle.action_values.specs.Evaluation.{value_in}
use Rattle.action_values.proofs.walk.evaluate.Goals as goal

pub returns-then-place-yielder_count : goal.returns-then-place-yielder_count
returns-then-place-yielder_count c =
    sym (ap (value_in c.args.context.now) (item_at-past c.args.context.now.graph.now.yielders c.args.number (omega arith)))
