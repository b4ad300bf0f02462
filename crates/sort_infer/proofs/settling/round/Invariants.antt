use Rattle.std.proofs.Common.{All, false, take, ◌≡◌}
use Rattle.action_terms.specs.Meaning.{action_of}
use Rattle.sort_rules.specs.Admissible.{Holds}
use Rattle.sort_rules.specs.MarkedRows.{marked_table}
use Rattle.sort_infer.specs.Raised.{Grows}
use Rattle.sort_infer.proofs.settling.round.Given as goal

-- the table is raised; where it didn't grow, the nodes so far hold
abbrev pub invariant-loop-node : goal.invariant-loop-node
invariant-loop-node l = record {
  grows : Grows (action_of l.task.graph.now) l.grew l.initial.rows.items l.rows.items;
  hold : l.grew ≡ false → All (Holds (action_of l.task.graph.now) (marked_table l.initial.rows.items)) (take l.node-index l.order);
}
