use Rattle.std.proofs.Common.{◌≡◌, ◌<◌, ◌∙◌, ◌++◌, ◌+◌, ◌∷◌, [], List, ℕ, arith, ap, length, subst, sym}
use Rattle.std.specs.List.{range_with_len}
use Rattle.action_terms.specs.Meaning.{action_of}
use Rattle.sort_rules.proofs.NodeWalks.{length-nodes, nodes-few}
use Rattle.frame_layout.proofs.GraphParts.{trees-of_graph}
use Rattle.frame_layout.proofs.Grouping.{range-more}
use Rattle.frame_layout.proofs.ProcedureRoots.{AreRootsBelow, below-all, below-more, below-none}
use Rattle.frame_layout.proofs.roots.procedure_roots.Goals as goal

pub overflow_cast-node : goal.overflow_cast-node
overflow_cast-node c =
    let few = nodes-few c.args.graph.now c.nodes-count.result.now c.nodes-count.ensures.nodes c.nodes-count.ensures.of_an_action in
    omega (arith, few, c.loop-node-test.true)

pub loop-node-preserved : goal.loop-node-preserved
loop-node-preserved c =
    let last : 0 + c.loop-node.node ≡ c.loop-node.node = omega arith in
    c.in_ok-push.ensures.items ∙ ap (λ (ks : List ℕ). ks ++ c.loop-node.node ∷ []) c.loop-node.invariant
    ∙ ap (λ (k : ℕ). range_with_len 0 c.loop-node.node ++ k ∷ []) (sym last) ∙ sym (range-more 0 c.loop-node.node)

pub loop-node-2-init : goal.loop-node-2-init
loop-node-2-init c =
    let a = action_of c.args.graph.now in
    let count = length-nodes c.args.graph.now c.nodes-count.result.now c.nodes-count.ensures.nodes in
    let all : c.loop-node.node ≡ length a = omega (arith, count, c.loop-node-test.false, c.loop-node.auto.node-end) in
    below-none a c.loop-node.roots.items (c.loop-node.invariant ∙ ap (range_with_len 0) all)

pub loop-node-2-preserved : goal.loop-node-2-preserved
loop-node-2-preserved c =
    let a = action_of c.args.graph.now in
    let k = c.loop-node-2.node in
    let count = length-nodes c.args.graph.now c.nodes-count.result.now c.nodes-count.ensures.nodes in
    let within : k < length a = omega (arith, count, c.loop-node-2-test.true) in
    subst (AreRootsBelow a (k + 1)) (sym c.hand_down.ensures.roots)
    (below-more a (trees-of_graph c.args.graph.now c.nodes-count.ensures.of_an_action) k c.loop-node-2.roots.items c.loop-node-2.invariant within)

pub returns-clause-roots : goal.returns-clause-roots
returns-clause-roots c =
    let a = action_of c.args.graph.now in
    let count = length-nodes c.args.graph.now c.nodes-count.result.now c.nodes-count.ensures.nodes in
    below-all a (trees-of_graph c.args.graph.now c.nodes-count.ensures.of_an_action) c.loop-node-2.node c.loop-node-2.roots.items c.loop-node-2.invariant (omega (arith, count, c.loop-node-2-test.false))
