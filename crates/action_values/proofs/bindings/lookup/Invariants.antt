use Rattle.std.proofs.Common.{◌≡◌, drop}
use Rattle.action_terms.specs.Bindings.{lookup}
use Rattle.action_values.specs.Values.{bindings_of}
use Rattle.action_values.proofs.bindings.lookup.Given as goal

abbrev pub invariant-loop-binding : goal.invariant-loop-binding
invariant-loop-binding l = lookup l.token (bindings_of (drop l.binding-index l.bound)) ≡ lookup l.token (bindings_of l.bound)
