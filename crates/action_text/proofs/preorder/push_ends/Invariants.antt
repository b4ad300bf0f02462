use Rattle.std.proofs.Common.{◌≡◌, ◌-◌, ◌≤◌, ◌++◌}
use Rattle.action_text.specs.Sizes.{tree_ends}
use Rattle.action_text.proofs.preorder.push_ends.Given as goal

abbrev pub invariant-loop : goal.invariant-loop
invariant-loop l = record {
  before : l.last ≤ l.end;
  left : l.initial.stack.items ++ tree_ends l.sizes l.count l.end ≡ l.stack.items ++ tree_ends l.sizes (l.count - l.counter) l.last;
}
