use Rattle.std.proofs.Common.{◌≡◌, ◌-◌, ◌≤◌}
use Rattle.action_text.specs.Sizes.{start_back}
use Rattle.action_text.proofs.preorder.start_back.Given as goal

abbrev pub invariant-loop : goal.invariant-loop
invariant-loop l = record {
  before : l.start ≤ l.end;
  left : start_back l.sizes l.count l.end ≡ start_back l.sizes (l.count - l.counter) l.start;
}
