use Rattle.std.proofs.Common.{◌≡◌, ◌≤◌, ◌++◌, [], ◌∷◌, drop, map}
use Rattle.std.specs.Prelude.{None}
use Rattle.action_terms.specs.Pushed.{label_of}
use Rattle.action_terms.specs.Entries.{entry_of, entries, strays_in}
use Rattle.action_terms.proofs.bodies.enter_all.Given as goal

abbrev pub invariant-loop-node : goal.invariant-loop-node
invariant-loop-node l = record {
  seen : entries (None ∷ []) 0 0 (map label_of l.pushed) ≡ map entry_of l.entered.items ++ entries l.walk.contexts.items l.walk.action l.walk.yielder (map label_of (drop l.node-index l.pushed));
  strays : strays_in (None ∷ []) 0 (map label_of l.pushed) ≡ strays_in l.walk.contexts.items l.walk.action (map label_of (drop l.node-index l.pushed));
  actions : l.walk.action ≤ l.node-index;
  yielders : l.walk.yielder ≤ l.node-index;
}
