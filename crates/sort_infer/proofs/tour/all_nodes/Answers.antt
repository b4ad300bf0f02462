use Rattle.std.proofs.Common.{All, List, arith, length, subst, sym, ℕ, ◌<◌}
use Rattle.std.proofs.lemmas.List.Elements.{All-push}
use Rattle.action_terms.specs.Performances.{OneOf}
use Rattle.sort_rules.proofs.NodeWalks.{length-nodes, nodes-few}
use Rattle.sort_infer.proofs.Tours.{listed-more, nodes-count}
use Rattle.sort_infer.proofs.tour.all_nodes.Goals as goal

pub overflow_cast-node : goal.overflow_cast-node
overflow_cast-node c =
    let few = nodes-few c.args.graph.now c.nodes-node-end.result.now c.nodes-node-end.ensures.nodes c.nodes-node-end.ensures.of_an_action in
    omega (arith, few, c.loop-node-test.true)

pub loop-node-preserved : goal.loop-node-preserved
loop-node-preserved c =
    let nodes = c.loop-node.nodes.items in
    let node = c.loop-node.node in
    let count = length-nodes c.args.graph.now c.nodes-node-end.result.now c.nodes-node-end.ensures.nodes in
    let within : c.loop-node.node < length c.args.graph.now.nodes = omega (arith, c.loop-node-test.true, count, nodes-count c.args.graph.now) in
    record {
      within = subst (λ (zs : List ℕ). All (λ k. k < length c.args.graph.now.nodes) zs) (sym c.in_ok-push.ensures.items) (All-push (λ k. k < length c.args.graph.now.nodes) nodes node c.loop-node.invariant.within within);
      each = λ k less. subst (λ (zs : List ℕ). OneOf k zs) (sym c.in_ok-push.ensures.items) (listed-more nodes node c.loop-node.invariant.each k less);
    }
