-- How many are in the yielders behind is known.
use Rattle.std.proofs.Common.{◌≡◌, ℕ, ◌<◌, ◌≤◌, length, slice_index}
use Rattle.action_terms.specs.Forms.{yielder_at}
use Rattle.action_terms.specs.Need.{yielder_count}
use Rattle.rv_yield.specs.Counts.{capped}
use Rattle.rv_yield.proofs.counts.yielder_counts.Given as goal

abbrev pub invariant-loop-k : goal.invariant-loop-k
invariant-loop-k l = record {
  size : length l.counts.items ≡ length l.graph.yielders;
  each : (j : ℕ) → l.k ≤ j → j < length l.graph.yielders → slice_index l.counts.items j ≡ capped (yielder_count (yielder_at l.graph.yielders j));
}
