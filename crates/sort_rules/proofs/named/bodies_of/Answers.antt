use Rattle.std.proofs.Common.{ap, arith, length, sym, ◌++◌, ◌<◌, ◌∙◌, ◌≤◌}
use Rattle.std.specs.Prelude.{reverse}
use Rattle.action_terms.specs.Actions.{Node}
use Rattle.action_terms.specs.Meaning.{action_of}
use Rattle.sort_rules.specs.Demands.{closures_at}
use Rattle.sort_rules.proofs.NodeWalks.{bodies-more, length-nodes}
use Rattle.sort_rules.proofs.named.bodies_of.Goals as goal

pub loop-node-preserved : goal.loop-node-preserved
loop-node-preserved c =
    let g = c.args.graph.now in
    let some : 0 < c.loop-node.node = omega (arith, c.loop-node-test.true) in
    let count = length-nodes g c.nodes-node.result.now c.nodes-node.ensures.nodes in
    let most : c.loop-node.node ≤ length c.nodes-node.result.now = omega (arith, c.loop-node.auto.node) in
    let within : c.loop-node.node ≤ length (action_of g) = omega (arith, most, count) in
    bodies-more (action_of g) c.loop-node.node c.loop-node.bodies.items c.push_node_closures.new.bodies.items some within c.loop-node.invariant
    (c.in_ok-push_node_closures.ensures ∙ ap (λ (n : Node). c.loop-node.bodies.items ++ reverse (closures_at n)) (sym c.view.ensures.node))
