use Rattle.std.proofs.Common.{◌≡◌, drop}
use Rattle.std.specs.Prelude.{reverse}
use Rattle.action_terms.specs.Meaning.{action_of}
use Rattle.sort_rules.specs.Demands.{closure_bodies}
use Rattle.sort_rules.proofs.named.bodies_of.Given as goal

-- the bodies of the last nodes are there
abbrev pub invariant-loop-node : goal.invariant-loop-node
invariant-loop-node l = l.bodies.items ≡ reverse (closure_bodies (drop l.node (action_of l.graph)))
