use Rattle.std.proofs.Common.{◌≡◌, map, take}
use Rattle.meta_terms.specs.PlainItems.{plain_equation}
use Rattle.meta_terms.specs.declared.items.Equation.{Equation}
use Rattle.meta_check.specs.Tables.{alternative_by}
use Rattle.meta_check.proofs.matching.alternatives_by.Given as goal

abbrev pub invariant-loop-equation : goal.invariant-loop-equation
invariant-loop-equation l = l.list.items ≡ take l.equation-index (map (λ (e : Equation). alternative_by l.functions.entries l.alternatives.entries (plain_equation e)) l.equations)
