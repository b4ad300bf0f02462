use Rattle.std.proofs.Common.{◌++◌, ◌≡◌, drop}
use Rattle.sort_rules.specs.Postorder.{listed_closures}
use Rattle.sort_rules.proofs.judging.push_closures.Given as goal

-- the closures so far, and those that are left
abbrev pub invariant-loop-i : goal.invariant-loop-i
invariant-loop-i l = l.closures.items ++ listed_closures (drop l.i l.views) ≡ l.initial.closures.items ++ listed_closures l.views
