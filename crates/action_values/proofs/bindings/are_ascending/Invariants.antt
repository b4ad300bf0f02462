use Rattle.std.proofs.Common.{drop}
use Rattle.action_values.specs.Ascending.{AreAscending}
use Rattle.action_values.specs.Values.{bindings_of}
use Rattle.action_values.proofs.bindings.are_ascending.Given as goal

abbrev pub invariant-loop-i : goal.invariant-loop-i
invariant-loop-i l = AreAscending (bindings_of (drop l.i l.bound))
