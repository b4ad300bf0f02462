use Rattle.std.proofs.Common.{List, [], arith, length, subst, sym, take, ℕ, ◌++◌, ◌+◌, ◌<◌, ◌∷◌, ◌≡◌, ◌≤◌}
use Rattle.action_terms.specs.Meaning.{action_of}
use Rattle.sort_rules.specs.MarkedRows.{marked_table}
use Rattle.sort_rules.specs.Rows.{SortTable}
use Rattle.sort_rules.specs.declared.set.Set.{Set}
use Rattle.sort_rules.specs.declared.table.Row.{Row}
use Rattle.sort_rules.proofs.NodeWalks.{length-nodes, nodes-few}
use Rattle.sort_infer.specs.ClearRows.{HaveParts, IsClearTable, IsFirstClash}
use Rattle.sort_infer.proofs.ClearRows.{clear-table, filled-at, first-clash, have-more, have-none}
use Rattle.sort_infer.proofs.tables.table_of.Goals as goal

pub loop-node-init : goal.loop-node-init
loop-node-init c = have-none c.in_ok-rows.rows.items c.in_ok-contents.contents.items c.in_ok-rows.ensures.items c.in_ok-contents.ensures.items

pub clear_row-requires : goal.clear_row-requires
clear_row-requires c =
    let count = length-nodes c.args.graph.now c.nodes-count.result.now c.nodes-count.ensures.nodes in
    let less : c.loop-node.node < length c.args.marked.now = omega (arith, c.loop-node-test.true, count, c.requires.count) in
    filled-at (action_of c.args.graph.now) c.args.marked.now c.loop-node.node c.index-marked-node.result less c.index-marked-node.is c.requires

pub overflow_cast-result : goal.overflow_cast-result
overflow_cast-result c =
    let few = nodes-few c.args.graph.now c.nodes-count.result.now c.nodes-count.ensures.nodes c.nodes-count.ensures.of_an_action in
    omega (arith, few, c.loop-node-test.true)

pub returns-in_default-clause-ill_sorted : goal.returns-in_default-clause-ill_sorted
returns-in_default-clause-ill_sorted c = λ k e.
    let marked = c.args.marked.now in
    let count = length-nodes c.args.graph.now c.nodes-count.result.now c.nodes-count.ensures.nodes in
    let less : c.loop-node.node < length c.args.marked.now = omega (arith, c.loop-node-test.true, count, c.requires.count) in
    let same : c.loop-node.node ≡ k = cc in
    subst (λ (i : ℕ). IsFirstClash (marked_table marked) i) same
    (first-clash marked c.loop-node.node c.index-marked-node.result c.loop-node.rows.items c.loop-node.contents.items less c.index-marked-node.is c.loop-node.invariant (c.clear_row.ensures.clash c.in_default.is))

pub loop-node-preserved : goal.loop-node-preserved
loop-node-preserved c =
    let marked = c.args.marked.now in
    let next = c.loop-node.node + 1 in
    let rows = c.loop-node.rows.items in
    let contents = c.loop-node.contents.items in
    let count = length-nodes c.args.graph.now c.nodes-count.result.now c.nodes-count.ensures.nodes in
    let less : c.loop-node.node < length c.args.marked.now = omega (arith, c.loop-node-test.true, count, c.requires.count) in
    subst (λ (zs : List Row). HaveParts (take next marked) zs c.push-in-loop-node.new.self.items) (sym c.in_ok-push.ensures.items)
    (subst (λ (zs : List Set). HaveParts (take next marked) (rows ++ c.in-Some.row ∷ []) zs) (sym c.in_ok-push-2.ensures.items)
    (have-more marked c.loop-node.node c.index-marked-node.result c.in-Some.row c.in-Some.set rows contents less c.index-marked-node.is c.in-Some.ensures.parts c.loop-node.invariant))

pub make-requires : goal.make-requires
make-requires c =
    let count = length-nodes c.args.graph.now c.nodes-count.result.now c.nodes-count.ensures.nodes in
    let all : length c.args.marked.now ≤ c.loop-node.node = omega (arith, c.loop-node-test.false, count, c.requires.count) in
    let clear = clear-table (action_of c.args.graph.now) c.args.marked.now c.loop-node.node c.loop-node.rows.items c.into_bump_slice.result.now c.loop-node.contents.items c.into_bump_slice-2.result.now
    c.requires all c.loop-node.invariant c.into_bump_slice.ensures c.into_bump_slice-2.ensures in
    record { proper = clear.proper.table }

pub returns-clause-table : goal.returns-clause-table
returns-clause-table c =
    let count = length-nodes c.args.graph.now c.nodes-count.result.now c.nodes-count.ensures.nodes in
    let all : length c.args.marked.now ≤ c.loop-node.node = omega (arith, c.loop-node-test.false, count, c.requires.count) in
    let clear = clear-table (action_of c.args.graph.now) c.args.marked.now c.loop-node.node c.loop-node.rows.items c.into_bump_slice.result.now c.loop-node.contents.items c.into_bump_slice-2.result.now
    c.requires all c.loop-node.invariant c.into_bump_slice.ensures c.into_bump_slice-2.ensures in
    subst (λ (t : SortTable). IsClearTable (action_of c.args.graph.now) c.args.marked.now t) (sym c.make.ensures.table) clear
