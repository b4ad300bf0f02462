use Rattle.sort_rules.proofs.LeastTables.{least_once}
use Rattle.sort_rules.proofs.laws.least_table_is_one.Goals as goal

pub returns : goal.returns
returns c = least_once
