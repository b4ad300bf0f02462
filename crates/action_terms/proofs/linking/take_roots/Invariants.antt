use Rattle.std.proofs.Common.{◌≡◌, take, drop}
use Rattle.action_terms.proofs.linking.take_roots.Given as goal

abbrev pub invariant-loop : goal.invariant-loop
invariant-loop l = record {
  taken : l.taken.items ≡ take l.counter l.initial.roots.items;
  left : l.roots.items ≡ drop l.counter l.initial.roots.items;
}
