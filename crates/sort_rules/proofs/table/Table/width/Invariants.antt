use Rattle.std.proofs.Common.{◌≡◌}
use Rattle.sort_rules.specs.Measures.{width}
use Rattle.sort_rules.specs.Rows.{unmarked}
use Rattle.sort_rules.proofs.table.Table.width.Given as goal

-- the width of the rows so far
abbrev pub invariant-loop-row : goal.invariant-loop-row
invariant-loop-row l = l.width ≡ width l.row-index (unmarked l.self)
