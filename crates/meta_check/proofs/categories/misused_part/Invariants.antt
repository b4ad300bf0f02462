use Rattle.meta_check.specs.Rules.{misuses_part}
use Rattle.meta_check.proofs.Searching.{HoldsBelow}
use Rattle.meta_check.proofs.categories.misused_part.Given as goal

abbrev pub invariant-loop-number : goal.invariant-loop-number
invariant-loop-number l = HoldsBelow misuses_part l.items l.number
