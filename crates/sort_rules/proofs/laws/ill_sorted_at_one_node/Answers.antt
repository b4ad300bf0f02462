use Rattle.sort_rules.proofs.LeastTables.{ill_sorted_once}
use Rattle.sort_rules.proofs.laws.ill_sorted_at_one_node.Goals as goal

pub returns : goal.returns
returns c = ill_sorted_once
