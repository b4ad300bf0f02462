-- What was emitted, and behind it what is still to come, is the code of the yielder.
use Rattle.std.proofs.Common.{◌≡◌}
use Rattle.std.specs.Prelude.{All}
use Rattle.action_terms.specs.Forms.{yielder_at}
use Rattle.rv_yield.specs.Fronts.{IsAppended}
use Rattle.rv_yield.specs.Registers.{HasWords}
use Rattle.rv_yield.specs.YielderCode.{value_items}
use Rattle.rv_yield.specs.Tasks.{items_of, IsReady, HaveWords, turns}
use Rattle.rv_yield.specs.Sources.{places_of}
use Rattle.rv_yield.proofs.values.value_code.Given as goal

abbrev pub invariant-loop-task : goal.invariant-loop-task
invariant-loop-task l = record {
  labels : l.asm.labels ≡ l.initial.asm.labels;
  items :
      IsAppended (value_items (places_of l.source) l.fn.register l.fn.register l.source.nothing (yielder_at l.source.graph.now.yielders l.yielder))
      (items_of l.source.graph.now.yielders (places_of l.source) l.source.nothing l.tasks.items) l.initial.asm l.asm;
  ready : All (IsReady l.source.graph.now.yielders) l.tasks.items;
  words : HaveWords l.source.graph.now.yielders l.tasks.items → HasWords (yielder_at l.source.graph.now.yielders l.yielder);
}

abbrev pub decreases-loop-task : goal.decreases-loop-task
decreases-loop-task l = turns l.source.graph.now.yielders l.tasks.items
