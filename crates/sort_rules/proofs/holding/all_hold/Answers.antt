use Rattle.std.proofs.Common.{List, ap, arith, length, sym, ◌<◌, ◌∙◌}
use Rattle.action_terms.specs.Meaning.{action_of}
use Rattle.sort_rules.specs.MarkedRows.{marked_table}
use Rattle.sort_rules.specs.Tests.{holds}
use Rattle.sort_rules.specs.declared.rows.MarkedRow.{MarkedRow}
use Rattle.sort_rules.proofs.HoldLaws.{all_hold-more, all_hold-not}
use Rattle.sort_rules.proofs.NodeWalks.{length-nodes, nodes-few}
use Rattle.sort_rules.proofs.holding.all_hold.Goals as goal

pub overflow_cast-node : goal.overflow_cast-node
overflow_cast-node c =
    let few = nodes-few c.args.graph.now c.nodes-node-end.result.now c.nodes-node-end.ensures.nodes c.nodes-node-end.ensures.of_an_action in
    omega (arith, few, c.loop-node-test.true)

pub loop-node-preserved : goal.loop-node-preserved
loop-node-preserved c =
    let a = action_of c.args.graph.now in
    let k = c.loop-node.node in
    let same = c.in_ok-holds.ensures ∙ ap (λ (rows : List MarkedRow). holds a (marked_table rows) c.moved.result.node) c.moved.ensures.rows ∙ ap (holds a (marked_table c.args.site.now.rows.now)) c.moved.ensures.node in
    all_hold-more a (marked_table c.args.site.now.rows.now) k c.loop-node.invariant (sym same ∙ c.if-not-holds.false)

pub returns-then-not-holds : goal.returns-then-not-holds
returns-then-not-holds c =
    let a = action_of c.args.graph.now in
    let k = c.loop-node.node in
    let same = c.in_ok-holds.ensures ∙ ap (λ (rows : List MarkedRow). holds a (marked_table rows) c.moved.result.node) c.moved.ensures.rows ∙ ap (holds a (marked_table c.args.site.now.rows.now)) c.moved.ensures.node in
    let count = length-nodes c.args.graph.now c.nodes-node-end.result.now c.nodes-node-end.ensures.nodes in
    let less : c.loop-node.node < length (action_of c.args.graph.now) = omega (arith, c.loop-node-test.true, count) in
    sym (all_hold-not a (marked_table c.args.site.now.rows.now) k (length a) less (sym same ∙ c.if-not-holds.true))
