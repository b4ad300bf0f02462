-- What is answered of rows that have settled.
use Rattle.std.proofs.Common.{List, subst, sym, ℕ, ◌≡◌}
use Rattle.std.proofs.Math.Path.{fun_ext}
use Rattle.action_terms.specs.Actions.{Action}
use Rattle.sort_rules.specs.Admissible.{IsIllSorted, IsLeast, IsLeastMarked}
use Rattle.sort_rules.specs.MarkedRows.{marked_table}
use Rattle.sort_rules.specs.Rows.{SortTable, unmarked}
use Rattle.sort_rules.specs.Tables.{MarkedTable}
use Rattle.sort_rules.specs.declared.rows.MarkedRow.{MarkedRow}
use Rattle.sort_rules.proofs.ClearTables.{table_clear}
use Rattle.sort_rules.proofs.LeastTables.{ill_sorted, least_of_clear}
use Rattle.sort_infer.specs.ClearRows.{IsClearTable, IsFirstClash}

-- a table without a clash is the least one
pub least-table : (a : Action) (rows : List MarkedRow) (t : SortTable) → IsLeastMarked a (marked_table rows) → IsClearTable a rows t → IsLeast a (unmarked t)
least-table a rows t least clear =
    let same : unmarked t ≡ marked_table rows = fun_ext clear.same in
    least_of_clear a (unmarked t) (subst (λ (u : MarkedTable). IsLeastMarked a u) (sym same) least) (table_clear t clear.proper.table)

-- the first clash is that of the least marked table
pub ill-sorted-at : (a : Action) (rows : List MarkedRow) (k : ℕ) → IsLeastMarked a (marked_table rows) → IsFirstClash (marked_table rows) k → IsIllSorted a k
ill-sorted-at a rows k least first = ill_sorted a (marked_table rows) k least first.clash first.first
