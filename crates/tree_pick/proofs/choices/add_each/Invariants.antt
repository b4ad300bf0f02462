use Rattle.std.proofs.Common.{◌⊎◌, take, Contains}
use Rattle.std.specs.Prelude.{◌↔◌}
use Rattle.tree_pick.specs.declared.phrases.Taken.{Taken}
use Rattle.tree_pick.specs.Choices.{Takes}
use Rattle.tree_pick.proofs.choices.add_each.Given as goal

abbrev pub invariant-loop-k : goal.invariant-loop-k
invariant-loop-k l = (x : Taken) → Contains l.found.items x
    ↔ (Contains l.fn.found.items x ⊎ Takes l.parse.grammar l.parse.kinds l.production l.alternative (Contains (take l.k l.ends)) l.into.nonterm l.into.end x)
