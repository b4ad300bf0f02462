use Rattle.std.proofs.Common.{ℕ, take, Contains}
use Rattle.std.specs.Prelude.{◌↔◌}
use Rattle.tree_pick.specs.Runs.{LeadsFrom}
use Rattle.tree_pick.proofs.runs.follow.Given as goal

abbrev pub invariant-loop-k : goal.invariant-loop-k
invariant-loop-k l = (e : ℕ) → Contains l.places.items e ↔ LeadsFrom (l.parse.grammar) (l.parse.kinds) l.part (take l.k l.from) e
