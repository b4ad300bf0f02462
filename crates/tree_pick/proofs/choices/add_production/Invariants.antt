use Rattle.std.proofs.Common.{◌≡◌, ◌<◌, ◌⊎◌, Contains}
use Rattle.std.specs.Prelude.{◌↔◌}
use Rattle.tree_pick.specs.declared.phrases.Taken.{Taken}
use Rattle.tree_pick.specs.Choices.{CanTake}
use Rattle.tree_pick.proofs.choices.add_production.Given as goal

abbrev pub invariant-loop-alternative : goal.invariant-loop-alternative
invariant-loop-alternative l = (x : Taken) → Contains l.found.items x
    ↔ (Contains l.fn.found.items x
    ⊎ ((x.alternative < l.alternative) × ((x.production ≡ l.production) × CanTake l.parse.grammar l.parse.kinds l.corner l.into.nonterm l.into.end x)))
