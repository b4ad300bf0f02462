use Rattle.sort_rules.proofs.Putting.{IsPassed}
use Rattle.sort_rules.proofs.maps.place.Given as goal

abbrev pub invariant-loop-i : goal.invariant-loop-i
invariant-loop-i l = IsPassed l.pairs l.token l.i
