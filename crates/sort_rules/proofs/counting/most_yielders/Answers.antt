use Rattle.std.proofs.Common.{◌≡◌, ◌<◌, ◌-◌, ◌∙◌, ap, arith, drop, length, max, subst, suc, sym, ℕ}
use Rattle.action_terms.specs.Actions.{Node, node_at}
use Rattle.action_terms.specs.Meaning.{action_of}
use Rattle.action_terms.specs.Need.{most_yielders, node_yielder_count}
use Rattle.sort_rules.proofs.NodeWalks.{length-nodes}
use Rattle.sort_rules.proofs.YielderCounts.{most-more, node-few}
use Rattle.sort_rules.proofs.counting.most_yielders.Goals as goal

pub count_in_node-requires-clause-few : goal.count_in_node-requires-clause-few
count_in_node-requires-clause-few c =
    subst (λ (n : Node). node_yielder_count n < 65536) c.view.ensures.node (node-few c.args.graph.now c.nodes-k.ensures.of_an_action (c.loop-k.k - 1))

pub loop-k-preserved : goal.loop-k-preserved
loop-k-preserved c =
    let g = c.args.graph.now in
    let a = action_of g in
    let k = c.loop-k.k - 1 in
    let same = length-nodes g c.nodes-k.result.now c.nodes-k.ensures.nodes in
    let less : k < length a = omega (arith, same, c.loop-k.auto.k, c.loop-k-test.true) in
    let here = node-few g c.nodes-k.ensures.of_an_action k in
    let count : c.in_ok-count_in_node.field-0 ≡ node_yielder_count (node_at a k) = c.in_ok-count_in_node.ensures ∙ sym (ap node_yielder_count c.view.ensures.node) in
    let greatest : c.max-most.result ≡ max c.loop-k.most c.in_ok-count_in_node.field-0 = c.max-most.ensures in
    let next : suc k ≡ c.loop-k.k = omega (arith, c.loop-k-test.true) in
    let more : most_yielders (drop k a) ≡ max (node_yielder_count (node_at a k)) (most_yielders (drop c.loop-k.k a)) = most-more a k less ∙ ap (λ (n : ℕ). max (node_yielder_count (node_at a k)) (most_yielders (drop n a))) next in
    record {
      most = omega (arith, greatest, count, c.loop-k.invariant.most, more);
      few = omega (arith, greatest, count, c.loop-k.invariant.few, here);
    }
