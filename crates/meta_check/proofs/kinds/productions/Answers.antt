use Rattle.std.proofs.Common.{◌∙◌, [], ◌∷◌, map, ap}
use Rattle.gram_form.specs.Plain.{plain_production}
use Rattle.meta_terms.specs.PlainItems.{plain_item}
use Rattle.meta_terms.specs.declared.items.Item.{Item}
use Rattle.meta_check.specs.Views.{productions_of}
use Rattle.meta_check.proofs.SoFar.{productions_append, no_production, none_more, one_more}
use Rattle.meta_check.proofs.kinds.productions.Goals as goal
use Rattle.meta_check.proofs.kinds.productions.Goals.{in-Production+in_ok-push, in_default}

pub loop-item-preserved : goal.loop-item-preserved
loop-item-preserved c =
    elim c.match-item.branch [
      | in-Production+in_ok-push w ↦
          one_more plain_production productions_of productions_append c.args.items.now c.loop-item.item-index c.item-item.result c.loop-item.list.items c.match-item.list.items w.in-Production.production c.loop-item-test.true c.item-item.is c.loop-item.invariant
          (ap (λ v. v.items) w.list-is ∙ w.in_ok-push.ensures.items) (ap (λ (x : Item). productions_of (plain_item x ∷ [])) w.in-Production.is)
      | in_default w ↦
          ap (λ v. map plain_production v.items) w.list-is ∙ c.loop-item.invariant
          ∙ none_more productions_of productions_append c.args.items.now c.loop-item.item-index c.item-item.result c.loop-item-test.true c.item-item.is (no_production c.item-item.result w.in_default.not-Production)
    ]
