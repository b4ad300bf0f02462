use Rattle.meta_check.specs.Rules.{names_no_production}
use Rattle.meta_check.proofs.Searching.{HoldsBelow}
use Rattle.meta_check.proofs.names.undefined_name.Given as goal

abbrev pub invariant-loop-number : goal.invariant-loop-number
invariant-loop-number l = HoldsBelow names_no_production l.items l.number
