use Rattle.std.proofs.Common.{◌≡◌, ◌++◌, ◌≤◌, map, drop, length}
use Rattle.action_text.specs.Printing.{due, due_on}
use Rattle.action_text.proofs.print_jobs.push_jobs.Given as goal

abbrev pub invariant-loop-left : goal.invariant-loop-left
invariant-loop-left l = (l.left ≤ length l.jobs) × (due_on l.stack.items ≡ map due (drop l.left l.jobs) ++ due_on l.initial.stack.items)

abbrev pub decreases-loop-left : goal.decreases-loop-left
decreases-loop-left l = l.left
