use Rattle.std.proofs.Common.{◌≡◌, Some, drop}
use Rattle.action_terms.specs.Forms.{items_at}
use Rattle.action_terms.specs.Yielding.{both_data, items_yield}
use Rattle.action_values.specs.Values.{data_of, bindings_of, storage_of}
use Rattle.action_values.proofs.yielding.yielded_items.Given as goal

abbrev pub invariant-loop-number : goal.invariant-loop-number
invariant-loop-number l =
    let yielders = l.context.graph.now.yielders in
    both_data (Some (data_of l.items.items)) (items_yield (items_at yielders (drop l.number-index l.numbers)) (data_of l.context.given.now) (bindings_of l.context.bound.now) (storage_of l.context.cells.now))
    ≡ items_yield (items_at yielders l.numbers) (data_of l.context.given.now) (bindings_of l.context.bound.now) (storage_of l.context.cells.now)
