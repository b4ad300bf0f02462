use Rattle.std.proofs.Common.{false, take, true, ◌≡◌}
use Rattle.action_terms.specs.Meaning.{action_of}
use Rattle.sort_rules.specs.DemandViews.{demands_of}
use Rattle.sort_rules.specs.MarkedRows.{marked_table}
use Rattle.sort_rules.specs.Tests.{are_met}
use Rattle.sort_infer.specs.Raised.{Grows}
use Rattle.sort_infer.proofs.raising.raise_all.Given as goal

-- the table is raised by the demands so far; where it didn't grow, they were met
abbrev pub invariant-loop-demand : goal.invariant-loop-demand
invariant-loop-demand l = record {
  grows : Grows (action_of l.task.graph.now) l.grew l.initial.rows.items l.rows.items;
  met : l.grew ≡ false → are_met (marked_table l.initial.rows.items) (demands_of (take l.demand-index l.demand-items)) ≡ true;
}
