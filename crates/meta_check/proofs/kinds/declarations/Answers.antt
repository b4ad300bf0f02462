use Rattle.std.proofs.Common.{◌∙◌, [], ◌∷◌, map, ap}
use Rattle.meta_terms.specs.PlainItems.{plain_declaration, plain_item}
use Rattle.meta_terms.specs.declared.items.Item.{Item}
use Rattle.meta_check.specs.Views.{declarations_of}
use Rattle.meta_check.proofs.SoFar.{declarations_append, no_declaration, none_more, one_more}
use Rattle.meta_check.proofs.kinds.declarations.Goals as goal
use Rattle.meta_check.proofs.kinds.declarations.Goals.{in-Declaration+in_ok-push, in_default}

pub loop-item-preserved : goal.loop-item-preserved
loop-item-preserved c =
    elim c.match-item.branch [
      | in-Declaration+in_ok-push w ↦
          one_more plain_declaration declarations_of declarations_append c.args.items.now c.loop-item.item-index c.item-item.result c.loop-item.list.items c.match-item.list.items w.in-Declaration.declaration c.loop-item-test.true c.item-item.is c.loop-item.invariant
          (ap (λ v. v.items) w.list-is ∙ w.in_ok-push.ensures.items) (ap (λ (x : Item). declarations_of (plain_item x ∷ [])) w.in-Declaration.is)
      | in_default w ↦
          ap (λ v. map plain_declaration v.items) w.list-is ∙ c.loop-item.invariant
          ∙ none_more declarations_of declarations_append c.args.items.now c.loop-item.item-index c.item-item.result c.loop-item-test.true c.item-item.is (no_declaration c.item-item.result w.in_default.not-Declaration)
    ]
