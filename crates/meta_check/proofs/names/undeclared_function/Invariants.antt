use Rattle.meta_check.specs.Rules.{names_no_function}
use Rattle.meta_check.proofs.Searching.{HoldsBelow}
use Rattle.meta_check.proofs.names.undeclared_function.Given as goal

abbrev pub invariant-loop-number : goal.invariant-loop-number
invariant-loop-number l = HoldsBelow names_no_function l.items l.number
