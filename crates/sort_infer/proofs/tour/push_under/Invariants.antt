use Rattle.std.proofs.Common.{length}
use Rattle.sort_infer.specs.Tours.{AreWithin}
use Rattle.sort_infer.proofs.tour.push_under.Given as goal

-- all jobs are about nodes of the graph
abbrev pub invariant-loop-below : goal.invariant-loop-below
invariant-loop-below l = AreWithin (length l.graph.nodes) l.jobs.items
