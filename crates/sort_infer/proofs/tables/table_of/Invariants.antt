use Rattle.std.proofs.Common.{take}
use Rattle.sort_infer.specs.ClearRows.{HaveParts}
use Rattle.sort_infer.proofs.tables.table_of.Given as goal

-- the rows so far are those of a table
abbrev pub invariant-loop-node : goal.invariant-loop-node
invariant-loop-node l = HaveParts (take l.node l.marked) l.rows.items l.contents.items
