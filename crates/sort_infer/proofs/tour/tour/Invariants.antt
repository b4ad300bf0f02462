use Rattle.std.proofs.Common.{All, length, ◌<◌}
use Rattle.sort_infer.specs.Tours.{AreWithin}
use Rattle.sort_infer.proofs.tour.tour.Given as goal

-- the order and the jobs are about nodes of the graph
abbrev pub invariant-loop-visit : goal.invariant-loop-visit
invariant-loop-visit l = record { order : All (λ k. k < length l.graph.nodes) l.order.items; jobs : AreWithin (length l.graph.nodes) l.jobs.items }
