use Rattle.std.proofs.Common.{◌∙◌, refl, sym}
use Rattle.meta_check.specs.Rules.{misuses_variable}
use Rattle.meta_check.proofs.Searching.{equation_holds, other_holds, holds_all}
use Rattle.meta_check.proofs.templates.misused_variable.Goals as goal
use Rattle.meta_check.proofs.templates.misused_variable.Goals.{in-Equation+in_ok-misuses_variable+else-branch, in_default}

pub loop-number-preserved : goal.loop-number-preserved
loop-number-preserved c =
    elim c.match-item.branch [
      | in-Equation+in_ok-misuses_variable+else-branch w ↦
          equation_holds misuses_variable c.args.items.now c.loop-number.number c.index-items-number.result w.in-Equation.equation c.loop-number.invariant
          c.index-items-number.is w.in-Equation.is (sym w.in_ok-misuses_variable.ensures ∙ w.if-branch.false)
      | in_default w ↦
          other_holds misuses_variable (λ earlier all. (λ p. refl, λ d. refl)) c.args.items.now c.loop-number.number c.index-items-number.result
          c.loop-number.invariant c.index-items-number.is w.in_default.not-Equation
    ]

pub returns : goal.returns
returns c = holds_all misuses_variable c.args.items.now c.loop-number.number c.loop-number.invariant c.loop-number-test.false
