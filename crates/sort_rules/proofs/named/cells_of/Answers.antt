use Rattle.std.proofs.Common.{[], ap, arith, if◌then◌else◌, length, sym, ◌++◌, ◌<◌, ◌∙◌, ◌∷◌}
use Rattle.action_terms.specs.Actions.{Node}
use Rattle.action_terms.specs.Meaning.{action_of}
use Rattle.sort_rules.specs.Demands.{is_allocate}
use Rattle.sort_rules.proofs.NodeWalks.{cells-more, length-nodes, nodes-few}
use Rattle.sort_rules.proofs.named.cells_of.Goals as goal

pub overflow_cast-node : goal.overflow_cast-node
overflow_cast-node c =
    let few = nodes-few c.args.graph.now c.nodes-node-end.result.now c.nodes-node-end.ensures.nodes c.nodes-node-end.ensures.of_an_action in
    omega (arith, few, c.loop-node-test.true)

pub loop-node-preserved : goal.loop-node-preserved
loop-node-preserved c =
    let g = c.args.graph.now in
    let k = c.loop-node.node in
    let count = length-nodes g c.nodes-node-end.result.now c.nodes-node-end.ensures.nodes in
    let less : c.loop-node.node < length (action_of g) = omega (arith, c.loop-node-test.true, count) in
    cells-more (action_of g) k c.loop-node.cells.items c.push_cell.new.cells.items _ less c.loop-node.invariant
    (c.in_ok-push_cell.ensures g.yielders ∙ ap (λ (n : Node). c.loop-node.cells.items ++ (if is_allocate n then k ∷ [] else [])) (sym c.view.ensures.node))
