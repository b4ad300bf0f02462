-- What the yielders behind need is known.
use Rattle.std.proofs.Common.{◌≡◌, ℕ, ◌<◌, ◌≤◌, ◌+◌, length, slice_index}
use Rattle.action_terms.specs.Forms.{yielder_at, IsDatum}
use Rattle.rv_yield.specs.Registers.{need_of}
use Rattle.rv_yield.proofs.needs.registers_needed.Given as goal

abbrev pub invariant-loop-k : goal.invariant-loop-k
invariant-loop-k l = record {
  size : length l.needs.items ≡ length l.graph.yielders;
  each : (j : ℕ) → l.k ≤ j → IsDatum l.graph.yielders j → slice_index l.needs.items j ≡ need_of (yielder_at l.graph.yielders j);
  few : (j : ℕ) → l.k ≤ j → j < length l.graph.yielders → slice_index l.needs.items j + j ≤ length l.graph.yielders;
}
