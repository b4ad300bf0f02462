use Rattle.meta_check.specs.Rules.{misuses_variable}
use Rattle.meta_check.proofs.Searching.{HoldsBelow}
use Rattle.meta_check.proofs.templates.misused_variable.Given as goal

abbrev pub invariant-loop-number : goal.invariant-loop-number
invariant-loop-number l = HoldsBelow misuses_variable l.items l.number
