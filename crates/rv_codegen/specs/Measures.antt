-- What the image of an action is measured by, by a table of the action's sorts.
use Rattle.std.specs.Prelude.{ℕ, ◌+◌, length, sum_by}
use Rattle.action_terms.specs.Actions.{Action}
use Rattle.action_terms.specs.Need.{node_yielder_count, most_yielders, factor}
use Rattle.sort_rules.specs.Measures.{width}
use Rattle.sort_rules.specs.Tables.{MarkedTable}

-- how many action nodes and yielders an action has
abbrev pub node_count : Action → ℕ
node_count a = length a + sum_by node_yielder_count a

-- how many instructions a step may take: from the greatest length of data or bindings, and the greatest number of yielders of one node
abbrev pub factor_by : Action → MarkedTable → ℕ
factor_by a t = factor (width (length a) t) (most_yielders a)
