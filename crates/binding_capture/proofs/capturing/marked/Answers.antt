use Rattle.std.proofs.Common.{List, None, Option, Some, ap, arith, get_or, length, subst, suc, sym, ℕ, ◌-◌, ◌∙◌, ◌≡◌}
use Rattle.action_terms.specs.Meaning.{action_of}
use Rattle.sort_rules.specs.Numbers.{is_listed}
use Rattle.sort_rules.specs.Procedures.{above}
use Rattle.sort_rules.specs.Rows.{unmarked}
use Rattle.sort_rules.proofs.NodeWalks.{length-nodes, nodes-few}
use Rattle.binding_capture.specs.Asked.{tokens_of}
use Rattle.binding_capture.specs.Captures.{AreAbove}
use Rattle.binding_capture.proofs.Found.{AreMarkedFrom, marked-more, marked-none}
use Rattle.binding_capture.proofs.Holding.{holder-within}
use Rattle.binding_capture.proofs.capturing.marked.Goals as goal

pub candidates-requires-clause-few : goal.candidates-requires-clause-few
candidates-requires-clause-few c = nodes-few c.args.graph.now c.nodes-count.result.now c.nodes-count.ensures.nodes c.nodes-count.ensures.of_an_action

pub overflow_cast-node : goal.overflow_cast-node
overflow_cast-node c =
    let few = nodes-few c.args.graph.now c.nodes-count.result.now c.nodes-count.ensures.nodes c.nodes-count.ensures.of_an_action in
    omega (arith, few, c.loop-node.auto.node)

pub loop-node-init : goal.loop-node-init
loop-node-init c =
    let g = c.args.graph.now in
    let same = length-nodes g c.nodes-count.result.now c.nodes-count.ensures.nodes in
    let start = c.in_ok-marked.ensures in
    subst (λ (n : ℕ). AreMarkedFrom (action_of g) (unmarked c.args.table.now) n c.in_ok-marked.marked.items) (sym same)
    (marked-none (action_of g) (unmarked c.args.table.now) c.in_ok-marked.marked.items c.nodes-count.ensures.proper (start.long ∙ same)
    (λ k d less h. start.tokens k d (omega (arith, less, same)) (ap (is_listed k) c.requires.bodies ∙ h)))

pub mark_above-requires-clause-within : goal.mark_above-requires-clause-within
mark_above-requires-clause-within c =
    let a = action_of c.args.graph.now in
    let are = c.in_ok-holders.ensures in
    let same : c.deref.result.now ≡ c.in_ok-holders.holders.items = c.deref.ensures.value in
    let long : length c.deref.result.now ≡ length (action_of c.args.graph.now) = ap length c.deref.ensures.value ∙ are.long in
    λ k j less e.
    let found : above (action_of c.args.graph.now) k ≡ Some j = sym (are.each k (omega (arith, less, long))) ∙ sym (ap (λ (zs : List (Option ℕ)). get_or zs k None) c.deref.ensures.value) ∙ e in
    let within = holder-within 0 (action_of c.args.graph.now) k j found in
    omega (arith, within, long)

pub loop-node-preserved : goal.loop-node-preserved
loop-node-preserved c =
    let g = c.args.graph.now in
    let a = action_of c.args.graph.now in
    let k = c.loop-node.node - 1 in
    let next : c.loop-node.node ≡ suc k = omega (arith, c.loop-node-test.true) in
    let above-holds : AreAbove (action_of g) c.deref.result.now = subst (λ (hs : List (Option ℕ)). AreAbove (action_of c.args.graph.now) hs) (sym c.deref.ensures.value) c.in_ok-holders.ensures in
    marked-more (action_of g) (unmarked c.args.table.now) k c.loop-node.marked.items c.mark_above.new.candidates.items (tokens_of c.as_slice.result.now) c.nodes-count.ensures.proper
    (ap tokens_of c.as_slice.ensures.value ∙ c.in_ok-asked.ensures)
    (subst (λ (n : ℕ). AreMarkedFrom (action_of g) (unmarked c.args.table.now) n c.loop-node.marked.items) next c.loop-node.invariant)
    (c.in_ok-mark_above.ensures (action_of g) above-holds)
