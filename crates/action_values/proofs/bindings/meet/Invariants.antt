use Rattle.std.proofs.Common.{◌≡◌, drop}
use Rattle.action_terms.specs.Bindings.{meets}
use Rattle.action_values.specs.Values.{bindings_of}
use Rattle.action_values.proofs.bindings.meet.Given as goal

abbrev pub invariant-loop-binding : goal.invariant-loop-binding
invariant-loop-binding l = meets (bindings_of (drop l.binding-index l.first)) (bindings_of l.second) ≡ meets (bindings_of l.first) (bindings_of l.second)
