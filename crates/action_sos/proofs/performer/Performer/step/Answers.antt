use Rattle.std.proofs.Common.{◌≤◌, ◌+◌, ◌∙◌, length, sym, subst, ap, arith}
use Rattle.action_sos.specs.Performers.{steps_of}
use Rattle.action_sos.specs.Branches.{counted, count_in}
use Rattle.action_sos.proofs.PerformerEnds.{root-count}
use Rattle.action_sos.proofs.performer.Performer.step.Goals as goal

pub returns-clause-few : goal.returns-clause-few
returns-clause-few c =
    subst (λ p. length (steps_of p) + 16 ≤ 18446744073709551616) c.self.view_is
    (omega (
      arith,
      root-count c.self.inside.graph c.self.inside.root c.self.inside.world c.self.invariant,
      ap counted (sym c.take.ensures.value ∙ c.in-Some.is),
      ap count_in c.deref.ensures,
      c.if-deref-gt-MOST.false,
    ))
