use Rattle.std.proofs.Common.{◌≡◌, ◌++◌}
use Rattle.std.specs.Prelude.{replicate}
use Rattle.action_terms.proofs.bodies.put_around.Given as goal

abbrev pub invariant-loop : goal.invariant-loop
invariant-loop l = l.contexts.items ≡ replicate l.counter l.around ++ l.initial.contexts.items
