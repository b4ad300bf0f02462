use Rattle.std.proofs.Common.{◌≡◌, ◌++◌, ◌≤◌, drop, length, reverse}
use Rattle.action_text.proofs.lookup.push_reversed.Given as goal

abbrev pub invariant-loop-left : goal.invariant-loop-left
invariant-loop-left l = (l.left ≤ length l.right) × (l.stack.items ≡ l.initial.stack.items ++ reverse (drop l.left l.right))

abbrev pub decreases-loop-left : goal.decreases-loop-left
decreases-loop-left l = l.left
