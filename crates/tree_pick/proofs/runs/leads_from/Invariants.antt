use Rattle.std.proofs.Common.{take}
use Rattle.tree_pick.specs.Runs.{LeadsFrom}
use Rattle.tree_pick.proofs.runs.leads_from.Given as goal

abbrev pub invariant-loop-k : goal.invariant-loop-k
invariant-loop-k l = LeadsFrom l.parse.grammar l.parse.kinds l.part (take l.k l.places) l.end → ⊥
