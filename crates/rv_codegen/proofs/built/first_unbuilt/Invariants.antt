use Rattle.std.proofs.Common.{◌≡◌, drop}
use Rattle.action_terms.specs.Meaning.{action_of}
use Rattle.rv_codegen.specs.Built.{unbuilt_from, unbuilt}
use Rattle.rv_codegen.proofs.built.first_unbuilt.Given as goal

-- each node so far is built
abbrev pub invariant-loop-k : goal.invariant-loop-k
invariant-loop-k l = unbuilt_from l.k (drop l.k (action_of l.graph)) ≡ unbuilt (action_of l.graph)
