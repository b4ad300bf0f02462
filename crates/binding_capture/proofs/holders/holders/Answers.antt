use Rattle.std.proofs.Common.{All, List, ap, arith, length, subst, suc, sym, ℕ, ◌-◌, ◌<◌, ◌∙◌, ◌≡◌}
use Rattle.action_terms.specs.Actions.{node_at}
use Rattle.action_terms.specs.Meaning.{action_of}
use Rattle.action_terms.proofs.NamedNodes.{named-within}
use Rattle.sort_rules.proofs.NodeWalks.{length-nodes, nodes-few}
use Rattle.binding_capture.specs.Holders.{with_holder}
use Rattle.binding_capture.proofs.Holding.{AreHolders, holders-more, listed_under, under-within}
use Rattle.binding_capture.proofs.holders.holders.Goals as goal

pub overflow_cast-node : goal.overflow_cast-node
overflow_cast-node c =
    let few = nodes-few c.args.graph.now c.nodes-count.result.now c.nodes-count.ensures.nodes c.nodes-count.ensures.of_an_action in
    omega (arith, few, c.loop-node.auto.node)

pub set_holder-requires : goal.set_holder-requires
set_holder-requires c =
    let a = action_of c.args.graph.now in
    let k = c.loop-node.node - 1 in
    let listed : c.as_slice.result.now ≡ listed_under (node_at (action_of c.args.graph.now) (c.loop-node.node - 1)) = c.as_slice.ensures.value ∙ c.in_ok-nodes.ensures ∙ ap listed_under (sym c.view.ensures.node) in
    subst (λ (n : ℕ). All (λ j. j < n) c.as_slice.result.now) (sym c.loop-node.invariant.long)
    (subst (λ (ks : List ℕ). All (λ j. j < length (action_of c.args.graph.now)) ks) (sym listed)
    (under-within (length (action_of c.args.graph.now)) (node_at (action_of c.args.graph.now) (c.loop-node.node - 1)) (named-within (action_of c.args.graph.now) k c.nodes-count.ensures.proper)))

pub loop-node-preserved : goal.loop-node-preserved
loop-node-preserved c =
    let g = c.args.graph.now in
    let k = c.loop-node.node - 1 in
    let same = length-nodes g c.nodes-count.result.now c.nodes-count.ensures.nodes in
    let next : c.loop-node.node ≡ suc k = omega (arith, c.loop-node-test.true) in
    let less : k < length (action_of g) = omega (arith, same, c.loop-node.auto.node, c.loop-node-test.true) in
    let listed : c.as_slice.result.now ≡ listed_under (node_at (action_of g) k) = c.as_slice.ensures.value ∙ c.in_ok-nodes.ensures ∙ ap listed_under (sym c.view.ensures.node) in
    holders-more (action_of g) k c.loop-node.holders.items c.set_holder.new.holders.items less
    (subst (λ (n : ℕ). AreHolders (action_of g) n c.loop-node.holders.items) next c.loop-node.invariant)
    (c.set_holder.ensures ∙ ap (λ (ks : List ℕ). with_holder k ks c.loop-node.holders.items) listed)
