use Rattle.std.proofs.Common.{false, length, ℕ, ◌+◌, ◌<◌, ◌≡◌}
use Rattle.std.specs.Prelude.{if◌then◌else◌}
use Rattle.action_terms.specs.Meaning.{action_of}
use Rattle.sort_rules.specs.Admissible.{Holds}
use Rattle.sort_rules.specs.MarkedRows.{marked_table}
use Rattle.sort_rules.specs.Raising.{IsRaised}
use Rattle.sort_infer.specs.Raised.{IsProperTable, room_of}
use Rattle.sort_infer.proofs.settling.settle.Given as goal

-- the table is raised; where the last round changed nothing, all nodes hold
abbrev pub invariant-loop-grew : goal.invariant-loop-grew
invariant-loop-grew l = record {
  raised : IsRaised (action_of l.task.graph.now) (marked_table l.initial.rows.items) (marked_table l.rows.items);
  proper : IsProperTable (action_of l.task.graph.now) l.rows.items;
  hold : l.grew ≡ false → (k : ℕ) → k < length (action_of l.task.graph.now) → Holds (action_of l.task.graph.now) (marked_table l.rows.items) k;
}

-- a round that changes something leaves less room, and one that doesn't is the last
abbrev pub decreases-loop-grew : goal.decreases-loop-grew
decreases-loop-grew l = room_of (action_of l.task.graph.now) l.rows.items + (if l.grew then 1 else 0)
