use Rattle.meta_check.specs.Rules.{equals_no_alternative}
use Rattle.meta_check.proofs.Searching.{HoldsBelow}
use Rattle.meta_check.proofs.equations.strange_pattern.Given as goal

abbrev pub invariant-loop-number : goal.invariant-loop-number
invariant-loop-number l = HoldsBelow equals_no_alternative l.items l.number
