use Rattle.std.proofs.Common.{Err, ap, ◌∙◌}
use Rattle.std.proofs.lemmas.Result.{err_from_is_err_and}
use Rattle.sort_report.proofs.ReportLaws.{reported-took, reported-then, reported-first}
use Rattle.sort_report.proofs.reporting.report.Goals as goal

pub returns-in_err-print_nodes : goal.returns-in_err-print_nodes
returns-in_err-print_nodes g c =
    let error = err_from_is_err_and c.from_residual.result c.from_residual.ensures.1 in
    reported-first _ c.print_nodes.result c.from_residual.result c.in_err-print_nodes.was (error.1 ∙ ap Err error.2) c.print_nodes.ensures

pub returns-in_err-print_cells : goal.returns-in_err-print_cells
returns-in_err-print_cells g c =
    let error = err_from_is_err_and c.from_residual-in_err-print_cells.result c.from_residual-in_err-print_cells.ensures.1 in
    let nodes = reported-took c.print_nodes.result c.in_ok-print_nodes.was c.print_nodes.ensures in
    reported-then c.from_residual-in_err-print_cells.result nodes
    (reported-first _ c.print_cells.result c.from_residual-in_err-print_cells.result c.in_err-print_cells.was (error.1 ∙ ap Err error.2) c.print_cells.ensures)

pub returns : goal.returns
returns g c =
    let nodes = reported-took c.print_nodes.result c.in_ok-print_nodes.was c.print_nodes.ensures in
    let cells = reported-took c.print_cells.result c.in_ok-print_cells.was c.print_cells.ensures in
    reported-then c.print_measures.result nodes (reported-then c.print_measures.result cells c.print_measures.ensures)
