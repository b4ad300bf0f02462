use Rattle.std.proofs.Common.{◌≡◌, ◌∙◌, ◌↔◌, length, subst}
use Rattle.action_sos.specs.Performers.{steps_of, IsEnd}
use Rattle.action_sos.specs.Performed.{performing_of}
use Rattle.action_sos.proofs.PerformerEnds.{root-count, at-end}
use Rattle.action_sos.proofs.performer.Performer.open_steps.Goals as goal

counted : (c : goal.After-count_of) → c.count_of.result ≡ length (steps_of (performing_of c.self.inside.graph c.self.inside.root c.self.inside.world))
counted c = c.count_of.ensures ∙ root-count c.self.inside.graph c.self.inside.root c.self.inside.world c.self.invariant

pub returns-clause-count : goal.returns-clause-count
returns-clause-count c = subst (λ p. c.count_of.result ≡ length (steps_of p)) c.self.view_is (counted c)

pub returns-clause-at_end : goal.returns-clause-at_end
returns-clause-at_end c =
    subst (λ p. c.count_of.result ≡ 0 ↔ IsEnd p.state.tree) c.self.view_is
    (at-end c.self.inside.graph c.self.inside.root c.self.inside.world c.count_of.result c.self.invariant (counted c))
