use Rattle.action_terms.specs.Meaning.{action_of}
use Rattle.sort_infer.specs.Raised.{Grows}
use Rattle.sort_infer.proofs.settling.drain.Given as goal

-- the table is raised
abbrev pub invariant-loop-visit : goal.invariant-loop-visit
invariant-loop-visit l = Grows (action_of l.task.graph.now) l.grew l.initial.rows.items l.rows.items
