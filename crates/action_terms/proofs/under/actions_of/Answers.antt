use Rattle.std.proofs.Common.{sym, inl, inr}
use Rattle.action_terms.proofs.PlacesLemmas.{actions_wanted-actions, actions_wanted-yielders, actions_wanted-items, actions_wanted-closures}
use Rattle.action_terms.proofs.under.actions_of.Goals as goal

pub returns-in-Action : goal.returns-in-Action
returns-in-Action c = rw (c.in-Some.is, c.in-Action.is) (sym (actions_wanted-actions c.in-Some.group.count))

pub returns-in-Yielder : goal.returns-in-Yielder
returns-in-Yielder c =
    let n = c.in-Some.group.count in
    rw c.in-Some.is (elim c.in-Yielder.is [
      | inl e ↦ rw e (sym (actions_wanted-yielders n))
      | inr (inl e) ↦ rw e (sym (actions_wanted-items n))
      | inr (inr e) ↦ rw e (sym (actions_wanted-closures n))
    ])
