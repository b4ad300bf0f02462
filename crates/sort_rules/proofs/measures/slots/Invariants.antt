use Rattle.std.proofs.Common.{◌≡◌, ◌<◌, ◌≤◌, ℕ, length, slice_index}
use Rattle.action_terms.specs.Meaning.{action_of}
use Rattle.sort_rules.specs.Measures.{node_numbers, rows_slots, slots}
use Rattle.sort_rules.specs.Rows.{unmarked}
use Rattle.sort_rules.proofs.measures.slots.Given as goal

-- the slots of the first nodes are there, and for the others the words of their rows
abbrev pub invariant-loop-c : goal.invariant-loop-c
invariant-loop-c l = record {
  long : length l.slots.items ≡ length (action_of l.graph);
  done : (j : ℕ) → j < l.c → slice_index l.slots.items j ≡ slots (action_of l.graph) (unmarked l.table) j;
  left : (j : ℕ) → l.c ≤ j → j < length (action_of l.graph) → slice_index l.slots.items j ≡ rows_slots (action_of l.graph) (unmarked l.table) j (node_numbers (action_of l.graph));
  few : (j : ℕ) → l.c ≤ j → j < length (action_of l.graph) → slice_index l.slots.items j ≤ 21495808;
}
