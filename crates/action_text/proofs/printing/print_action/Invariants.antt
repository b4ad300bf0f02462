use Rattle.std.proofs.Common.{◌+◌, ◌-◌, length, drop}
use Rattle.action_terms.specs.Trees.{Tree}
use Rattle.action_terms.specs.Numbering.{IsGraphOf}
use Rattle.action_text.specs.Printing.{due_on}
use Rattle.action_text.proofs.PrintedGraphs.{Prints, yielder_labels_at}
use Rattle.action_text.proofs.ReadableGraphs.{AllReadable}
use Rattle.action_text.proofs.printing.print_action.Given as goal

abbrev pub invariant-loop-text : goal.invariant-loop-text
invariant-loop-text l = record {
  prints : (t : Tree) → IsGraphOf l.graph t → Prints l.graph (due_on l.stack.items) l.text l.action l.yielder t;
  readable : AllReadable (drop l.yielder (yielder_labels_at l.graph)) → AllReadable (yielder_labels_at l.graph);
}

abbrev pub decreases-loop-text : goal.decreases-loop-text
decreases-loop-text l = (length l.graph.nodes - l.action) + (length l.graph.yielders - l.yielder)
