use Rattle.std.proofs.Common.{◌≡◌, ◌≤◌, drop, length}
use Rattle.action_terms.specs.Bindings.{meets}
use Rattle.action_values.specs.Ascending.{AreAscending}
use Rattle.action_values.specs.Values.{bindings_of}
use Rattle.action_values.proofs.bindings.meet_ascending.Given as goal

abbrev pub invariant-loop-binding : goal.invariant-loop-binding
invariant-loop-binding l = record {
  within : l.next ≤ length l.second;
  so_far : meets (bindings_of (drop l.binding-index l.first)) (bindings_of (drop l.next l.second)) ≡ meets (bindings_of l.first) (bindings_of l.second);
  ascending : AreAscending (bindings_of (drop l.binding-index l.first));
}
