use Rattle.std.proofs.Common.{Err, ap}
use Rattle.acg_driver.proofs.compiling.least_table.Goals as goal

pub returns-in-Err-IllSorted-clause-refused : goal.returns-in-Err-IllSorted-clause-refused
returns-in-Err-IllSorted-clause-refused c = c.in-Err-IllSorted.ensures.ill_sorted c.in-Err-IllSorted.node (ap Err c.in-Err-IllSorted.field-0-is)
