use Rattle.action_values.proofs.Putting.{IsPassed}
use Rattle.action_values.proofs.bindings.place.Given as goal

abbrev pub invariant-loop-i : goal.invariant-loop-i
invariant-loop-i l = IsPassed l.bound l.token l.i
