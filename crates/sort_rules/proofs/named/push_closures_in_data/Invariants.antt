use Rattle.std.proofs.Common.{◌++◌, ◌≡◌, drop}
use Rattle.std.specs.Prelude.{reverse}
use Rattle.action_terms.specs.Forms.{items_at}
use Rattle.action_terms.specs.Steps.{closures_in_items}
use Rattle.sort_rules.proofs.named.push_closures_in_data.Given as goal

-- the closures in the last items are there
abbrev pub invariant-loop-i : goal.invariant-loop-i
invariant-loop-i l = l.bodies.items ≡ l.initial.bodies.items ++ reverse (closures_in_items (items_at l.graph.yielders (drop l.i l.numbers)))
