use Rattle.std.proofs.Common.{◌∙◌, not, refl, sym, ap}
use Rattle.std.specs.Prelude.{is_none}
use Rattle.meta_terms.specs.PlainItems.{plain_equation}
use Rattle.meta_check.specs.Rules.{equals_no_alternative}
use Rattle.meta_check.proofs.Searching.{equation_breaks, equation_holds, other_holds, holds_all}
use Rattle.meta_check.proofs.equations.strange_pattern.Goals as goal
use Rattle.meta_check.proofs.equations.strange_pattern.Goals.{in-Equation+in_ok-alternative_of+else-is_none, in_default}

pub returns-then-is_none : goal.returns-then-is_none
returns-then-is_none c =
    let found = c.in_ok-alternative_of.ensures ∙ c.requires (plain_equation c.in-Equation.equation) in
    equation_breaks equals_no_alternative c.args.items.now c.loop-number.number c.index-items-number.result c.in-Equation.equation c.loop-number.invariant c.loop-number-test.true
    c.index-items-number.is c.in-Equation.is (ap is_none (sym found) ∙ ap not (c.is_none.ensures ∙ ap not c.if-is_none.true))

pub loop-number-preserved : goal.loop-number-preserved
loop-number-preserved c =
    elim c.match-item.branch [
      | in-Equation+in_ok-alternative_of+else-is_none w ↦
          let found = w.in_ok-alternative_of.ensures ∙ c.requires (plain_equation w.in-Equation.equation) in
          equation_holds equals_no_alternative c.args.items.now c.loop-number.number c.index-items-number.result w.in-Equation.equation c.loop-number.invariant
          c.index-items-number.is w.in-Equation.is (ap is_none (sym found) ∙ ap not (w.is_none.ensures ∙ ap not w.if-is_none.false))
      | in_default w ↦
          other_holds equals_no_alternative (λ earlier all. (λ p. refl, λ d. refl)) c.args.items.now c.loop-number.number c.index-items-number.result
          c.loop-number.invariant c.index-items-number.is w.in_default.not-Equation
    ]

pub returns : goal.returns
returns c = holds_all equals_no_alternative c.args.items.now c.loop-number.number c.loop-number.invariant c.loop-number-test.false
