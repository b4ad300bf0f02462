use Rattle.std.proofs.Common.{◌≡◌, drop}
use Rattle.action_terms.specs.Forms.{items_at}
use Rattle.action_terms.specs.Need.{items_yielder_count}
use Rattle.sort_rules.proofs.counting.count_data.Given as goal

-- the last items are counted
abbrev pub invariant-loop-i : goal.invariant-loop-i
invariant-loop-i l = l.count ≡ items_yielder_count (items_at l.graph.yielders (drop l.i l.numbers))
