use Rattle.std.proofs.Common.{◌≡◌, drop}
use Rattle.action_terms.specs.Bindings.{overlaid}
use Rattle.action_values.specs.Values.{bindings_of}
use Rattle.action_values.proofs.bindings.put_all.Given as goal

abbrev pub invariant-loop-i : goal.invariant-loop-i
invariant-loop-i l = bindings_of l.list.items ≡ overlaid (bindings_of l.fn.list.items) (bindings_of (drop l.i l.over))
