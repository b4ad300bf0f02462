use Rattle.std.proofs.Common.{sym, inl, inr}
use Rattle.action_terms.proofs.PlacesLemmas.{yielders_wanted-actions, yielders_wanted-yielders, yielders_wanted-items, yielders_wanted-closures}
use Rattle.action_terms.proofs.under.yielders_of.Goals as goal

pub returns-in-Action : goal.returns-in-Action
returns-in-Action c = rw (c.in-Some.is, c.in-Action.is) (sym (yielders_wanted-actions c.in-Some.group.count))

pub returns-in-Yielder : goal.returns-in-Yielder
returns-in-Yielder c =
    let n = c.in-Some.group.count in
    rw c.in-Some.is (elim c.in-Yielder.is [
      | inl e ↦ rw e (sym (yielders_wanted-yielders n))
      | inr (inl e) ↦ rw e (sym (yielders_wanted-items n))
      | inr (inr e) ↦ rw e (sym (yielders_wanted-closures n))
    ])
