-- The negations so far are behind.
use Rattle.std.proofs.Common.{◌≡◌, ℕ, ◌≤◌, true}
use Rattle.action_terms.specs.Forms.{yielder_at, IsDatum}
use Rattle.action_terms.specs.Need.{yielder_count}
use Rattle.rv_yield.specs.Conditions.{condition_items}
use Rattle.rv_yield.specs.Registers.{HasWords, is_built}
use Rattle.rv_yield.specs.Sources.{places_of}
use Rattle.rv_yield.proofs.conditions.without_negations.Given as goal

abbrev pub invariant-loop-argument : goal.invariant-loop-argument
invariant-loop-argument l = record {
  datum : IsDatum l.source.graph.now.yielders l.wanted.yielder;
  built : is_built (yielder_at l.source.graph.now.yielders l.wanted.yielder) ≡ true;
  few : yielder_count (yielder_at l.source.graph.now.yielders l.wanted.yielder) ≤ yielder_count (yielder_at l.source.graph.now.yielders l.fn.yielder);
  words : HasWords (yielder_at l.source.graph.now.yielders l.wanted.yielder) → HasWords (yielder_at l.source.graph.now.yielders l.fn.yielder);
  items :
      (otherwise : ℕ) →
      condition_items (places_of l.source) true otherwise l.source.nothing (yielder_at l.source.graph.now.yielders l.fn.yielder)
      ≡ condition_items (places_of l.source) l.wanted.value otherwise l.source.nothing (yielder_at l.source.graph.now.yielders l.wanted.yielder);
}

abbrev pub decreases-loop-argument : goal.decreases-loop-argument
decreases-loop-argument l = yielder_count (yielder_at l.source.graph.now.yielders l.wanted.yielder)
