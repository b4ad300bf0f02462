use Rattle.std.proofs.Common.{◌∙◌, [], ◌∷◌, map, ap}
use Rattle.meta_terms.specs.PlainItems.{plain_equation, plain_item}
use Rattle.meta_terms.specs.declared.items.Item.{Item}
use Rattle.meta_check.specs.Views.{equations_of}
use Rattle.meta_check.proofs.SoFar.{equations_append, no_equation, none_more, one_more}
use Rattle.meta_check.proofs.kinds.equations.Goals as goal
use Rattle.meta_check.proofs.kinds.equations.Goals.{in-Equation+in_ok-push, in_default}

pub loop-item-preserved : goal.loop-item-preserved
loop-item-preserved c =
    elim c.match-item.branch [
      | in-Equation+in_ok-push w ↦
          one_more plain_equation equations_of equations_append c.args.items.now c.loop-item.item-index c.item-item.result c.loop-item.list.items c.match-item.list.items w.in-Equation.equation c.loop-item-test.true c.item-item.is c.loop-item.invariant
          (ap (λ v. v.items) w.list-is ∙ w.in_ok-push.ensures.items) (ap (λ (x : Item). equations_of (plain_item x ∷ [])) w.in-Equation.is)
      | in_default w ↦
          ap (λ v. map plain_equation v.items) w.list-is ∙ c.loop-item.invariant
          ∙ none_more equations_of equations_append c.args.items.now c.loop-item.item-index c.item-item.result c.loop-item-test.true c.item-item.is (no_equation c.item-item.result w.in_default.not-Equation)
    ]
