use Rattle.std.proofs.Common.{◌≡◌, ◌++◌, ◌-◌}
use Rattle.action_terms.specs.Labels.{AnItem, copies}
use Rattle.action_text.specs.Shapes.{more_items}
use Rattle.action_text.specs.Printing.{due_on, pieces_due}
use Rattle.action_text.proofs.action_jobs.push_list.Given as goal

abbrev pub invariant-loop : goal.invariant-loop
invariant-loop l = due_on l.stack.items ≡ pieces_due (more_items (l.counter - 1)) (copies (l.counter - 1) AnItem) ++ due_on l.fn.stack.items
