use Rattle.std.proofs.Common.{ap, arith, subst, sym, ◌∙◌}
use Rattle.std.specs.Prelude.{slice_index_or}
use Rattle.sort_rules.specs.Views.{row_of}
use Rattle.sort_rules.specs.Rows.{IsTable, SortTable, unreached_row}
use Rattle.sort_rules.proofs.Widths.{greater-max, row-read, width-more, width-most}
use Rattle.sort_rules.proofs.table.Table.width.Goals as goal

pub overflow_cast-result : goal.overflow_cast-result
overflow_cast-result c = omega (arith, c.loop-row.invariant, width-most c.args.self.now (subst IsTable c.self.view_is c.self.invariant) c.loop-row.row-index)

pub returns-clause-bound : goal.returns-clause-bound
returns-clause-bound c = omega (arith, c.loop-row.invariant, width-most c.args.self.now (subst IsTable c.self.view_is c.self.invariant) c.loop-row.row-index)

pub loop-row-preserved : goal.loop-row-preserved
loop-row-preserved c =
    let rows = c.self.inside.rows.now in
    let k = c.loop-row.row-index in
    let there = ap (λ (t : SortTable). slice_index_or t.rows k unreached_row) (sym c.self.view_is) in
    let read = row-read rows k c.row-item.result (omega (arith, c.loop-row-test.true)) in
    let e = there ∙ read ∙ ap row_of (sym c.row-item.is) in
    let more = width-more c.args.self.now k c.loop-row.width c.widest_in.result (row_of c.row-item.result) e c.loop-row.invariant c.widest_in.ensures in
    c.max-width.ensures ∙ (greater-max c.loop-row.width c.widest_in.result ∙ more)
