use Rattle.std.proofs.Common.{◌≡◌, ◌++◌, List, ℕ, map, vec_len}
use Rattle.action_text.specs.Printing.{Says, Token, due_on}
use Rattle.action_text.proofs.printing.print_tokens.Given as goal

abbrev pub invariant-loop-job : goal.invariant-loop-job
invariant-loop-job l =
    (said : List (List ℕ)) → Says l.initial.text said → (words : List (List ℕ)) × Says l.text (said ++ words) × (due_on l.initial.stack.items ≡ map Token words ++ due_on l.stack.items)

abbrev pub decreases-loop-job : goal.decreases-loop-job
decreases-loop-job l = vec_len l.stack
