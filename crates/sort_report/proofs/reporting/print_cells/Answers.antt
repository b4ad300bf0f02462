use Rattle.std.proofs.Common.{Err, ◌++◌, length, ap, ◌∙◌, subst, arith}
use Rattle.std.proofs.lemmas.List.{length-map}
use Rattle.std.proofs.lemmas.Result.{err_from_is_err_and}
use Rattle.acg_words.specs.Prints.{Broke}
use Rattle.action_terms.specs.Nodes.{listed_node}
use Rattle.action_terms.proofs.GraphLaws.{length-nodes_few}
use Rattle.sort_report.specs.Report.{contents_line}
use Rattle.sort_report.proofs.ReportLaws.{lines-stop, lines-break}
use Rattle.sort_report.proofs.reporting.print_cells.Goals as goal

pub overflow_cast-node : goal.overflow_cast-node
overflow_cast-node g c =
    let graph = c.args.graph.now in
    omega (arith, length-map c.nodes-node-end.result.now listed_node, ap length c.nodes-node-end.ensures.nodes, length-nodes_few graph c.nodes-node-end.ensures.of_an_action, c.loop-node-test.true)

pub returns-in_err-put_cells : goal.returns-in_err-put_cells
returns-in_err-put_cells g c =
    let nodes = c.nodes-node-end in
    let error = err_from_is_err_and c.from_residual.result c.from_residual.ensures.1 in
    lines-stop (contents_line c.args.graph.now c.args.table.now) c.loop-node.node (length c.args.graph.now.nodes)
    (omega (arith, length-map nodes.result.now listed_node, ap length nodes.ensures.nodes, c.loop-node-test.true))
    c.from_residual.result (error.1 ∙ ap Err error.2) c.loop-node.invariant

pub returns-in_err-print : goal.returns-in_err-print
returns-in_err-print g c =
    let nodes = c.nodes-node-end in
    let line = contents_line c.args.graph.now c.args.table.now in
    let error = err_from_is_err_and c.from_residual-in_err-print.result c.from_residual-in_err-print.ensures.1 in
    lines-break line c.loop-node.node (length c.args.graph.now.nodes)
    (omega (arith, length-map nodes.result.now listed_node, ap length nodes.ensures.nodes, c.loop-node-test.true))
    c.from_residual-in_err-print.result (error.1 ∙ ap Err error.2) c.loop-node.invariant
    (subst (λ text. Broke g.K.Sink text c.loop-node.out c.print.new.out) (c.deref.ensures.value ∙ c.in_ok-put_cells.ensures ∙ ap (λ text. text ++ line c.loop-node.node) c.clear.ensures.items) c.in_err-print.ensures.failed)
