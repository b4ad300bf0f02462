use Rattle.acg_words.specs.Prints.{Took}
use Rattle.sort_report.specs.Report.{lines_below, node_line}
use Rattle.sort_report.proofs.reporting.print_nodes.Given as goal

abbrev pub invariant-loop-node : goal.invariant-loop-node
invariant-loop-node g l = Took g.K.Sink (lines_below (node_line l.graph l.table) l.node) l.fn.out l.out
