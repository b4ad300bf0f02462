use Rattle.std.proofs.Common.{List, arith, length, subst, sym, ◌<◌, ◌∙◌}
use Rattle.std.proofs.lemmas.Result.{IfOk-weaker}
use Rattle.action_terms.specs.Meaning.{action_of}
use Rattle.sort_rules.specs.Admissible.{IsLeast, IsLeastMarked}
use Rattle.sort_rules.specs.MarkedRows.{marked_table}
use Rattle.sort_rules.specs.Rows.{IsTableOf, SortTable, unmarked}
use Rattle.sort_rules.specs.declared.rows.MarkedRow.{MarkedRow}
use Rattle.sort_rules.proofs.NodeWalks.{length-nodes}
use Rattle.sort_infer.specs.ClearRows.{IsClearTable}
use Rattle.sort_infer.specs.Raised.{IsProperTable}
use Rattle.sort_infer.proofs.FirstRows.{first-proper, settled-least}
use Rattle.sort_infer.proofs.SettledRows.{ill-sorted-at, least-table}
use Rattle.sort_infer.proofs.inference.infer.Goals as goal

pub first_rows-requires : goal.first_rows-requires
first_rows-requires c =
    let count = length-nodes c.args.graph.now c.nodes.result.now c.nodes.ensures.nodes in
    let some : 0 < length (action_of c.args.graph.now) = c.nodes.ensures.proper.root in
    omega (arith, count, some)

pub settle-requires-clause-table : goal.settle-requires-clause-table
settle-requires-clause-table c = first-proper (action_of c.args.graph.now) c.in_ok-rows.rows.items (c.in_ok-rows.ensures.length ∙ length-nodes c.args.graph.now c.nodes.result.now c.nodes.ensures.nodes) c.in_ok-rows.ensures.table

pub table_of-requires : goal.table_of-requires
table_of-requires c = subst (λ (rows : List MarkedRow). IsProperTable (action_of c.args.graph.now) rows) (sym c.as_slice.ensures.value) c.in_ok-settle.ensures.proper

pub returns : goal.returns
returns c =
    let a = action_of c.args.graph.now in
    let rows = c.as_slice.result.now in
    let least : IsLeastMarked (action_of c.args.graph.now) (marked_table c.as_slice.result.now) =
    subst (λ (rows : List MarkedRow). IsLeastMarked (action_of c.args.graph.now) (marked_table rows)) (sym c.as_slice.ensures.value) (settled-least a c.in_ok-rows.rows.items c.settle.new.rows.items c.in_ok-rows.ensures.table c.in_ok-settle.ensures) in
    record {
      least = IfOk-weaker c.table_of.result (IsClearTable a rows) (λ (t : SortTable). IsLeast a (unmarked t)) (λ t clear. least-table a rows t least clear) c.table_of.ensures.table;
      proper = IfOk-weaker c.table_of.result (IsClearTable a rows) (λ (t : SortTable). IsTableOf a t) (λ t clear. clear.proper) c.table_of.ensures.table;
      ill_sorted = λ k e. ill-sorted-at a rows k least (c.table_of.ensures.ill_sorted k e);
    }
