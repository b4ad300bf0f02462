use Rattle.std.proofs.Common.{◌++◌, ◌≡◌, drop}
use Rattle.std.specs.Prelude.{reverse}
use Rattle.action_terms.specs.Forms.{items_at}
use Rattle.action_terms.specs.Steps.{closures_in_items}
use Rattle.sort_rules.specs.Judgements.{misfit_unless}
use Rattle.sort_rules.specs.MarkedRows.{contents_in}
use Rattle.sort_rules.specs.Values.{items_value, items_wrong}
use Rattle.sort_rules.specs.Views.{marked_binds_of, marked_tuple_of}
use Rattle.sort_rules.proofs.operands.judge_data.Given as goal

-- the last items are judged
abbrev pub invariant-loop-i : goal.invariant-loop-i
invariant-loop-i l = record {
  value : marked_tuple_of l.value ≡ items_value (contents_in l.context.rows.now) (marked_tuple_of l.context.g) (marked_binds_of l.context.h) (items_at l.graph.yielders (drop l.i l.numbers));
  wrong : misfit_unless l.fits ≡ items_wrong (contents_in l.context.rows.now) (marked_tuple_of l.context.g) (marked_binds_of l.context.h) (items_at l.graph.yielders (drop l.i l.numbers));
  closures : l.closures.items ≡ l.initial.closures.items ++ reverse (closures_in_items (items_at l.graph.yielders (drop l.i l.numbers)));
}
