use Rattle.sort_rules.proofs.LeastTables.{least_of_clear, well_sorted_tells}
use Rattle.sort_rules.proofs.laws.least_marked_table_tells.Goals as goal

pub returns : goal.returns
returns c = record { well_sorted = well_sorted_tells; least = least_of_clear }
