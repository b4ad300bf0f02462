use Rattle.std.proofs.Common.{◌≡◌, ◌≤◌, drop, length}
use Rattle.action_terms.specs.Bindings.{overlaid}
use Rattle.action_values.specs.Ascending.{AreAscending}
use Rattle.action_values.specs.Puts.{before}
use Rattle.action_values.specs.Values.{bindings_of}
use Rattle.action_values.proofs.bindings.merge.Given as goal

abbrev pub invariant-loop-binding : goal.invariant-loop-binding
invariant-loop-binding l = record {
  within : l.next ≤ length l.under;
  so_far : before l.list.items (overlaid (bindings_of (drop l.next l.under)) (bindings_of (drop l.binding-index l.over))) ≡ overlaid (bindings_of l.under) (bindings_of l.over);
  ascending : AreAscending (bindings_of (drop l.binding-index l.over));
}
