use Rattle.std.proofs.Common.{Contains, take}
use Rattle.std.specs.Prelude.{◌↔◌}
use Rattle.tree_pick.specs.declared.phrases.Taken.{Taken}
use Rattle.tree_pick.specs.Choices.{CanTake}
use Rattle.tree_pick.proofs.choices.all_taken.Given as goal

abbrev pub invariant-loop-k : goal.invariant-loop-k
invariant-loop-k l = (x : Taken) → Contains l.found.items x
    ↔ (Contains (take l.k l.firsts) x.production × CanTake l.parse.grammar l.parse.kinds l.corner l.into.nonterm l.into.end x)
