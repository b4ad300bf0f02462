use Rattle.sort_rules.proofs.LeastTables.{least_marked_once}
use Rattle.sort_rules.proofs.laws.least_marked_table_is_one.Goals as goal

pub returns : goal.returns
returns c = least_marked_once
