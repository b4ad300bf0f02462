use Rattle.action_terms.specs.Meaning.{action_of}
use Rattle.sort_rules.proofs.ProcedureWalks.{AreRoots}
use Rattle.sort_rules.proofs.roots.procedure_roots.Given as goal

-- the roots of the first nodes are there
abbrev pub invariant-loop-k : goal.invariant-loop-k
invariant-loop-k l = AreRoots (action_of l.graph) l.k l.roots.items
