use Rattle.std.proofs.Common.{◌≡◌, ◌<◌, ◌-◌, ◌∙◌, arith, length, suc, sym, ap, subst, ℕ, true}
use Rattle.action_terms.specs.Actions.{Node}
use Rattle.action_terms.specs.Forms.{NamesNodes}
use Rattle.action_terms.specs.Meaning.{action_of}
use Rattle.sort_rules.specs.Filling.{AreWholes, with_whole}
use Rattle.sort_rules.specs.Numbers.{is_listed}
use Rattle.sort_rules.specs.Procedures.{parts_at}
use Rattle.sort_rules.proofs.NodeWalks.{length-action, length-nodes, nodes-few}
use Rattle.sort_rules.proofs.ProcedureWalks.{parts-behind, wholes-more, wholes-none}
use Rattle.sort_rules.proofs.roots.wholes.Goals as goal

pub own_numbers-requires : goal.own_numbers-requires
own_numbers-requires c = nodes-few c.args.graph.now c.nodes-count.result.now c.nodes-count.ensures.nodes c.nodes-count.ensures.of_an_action

pub loop-k-init : goal.loop-k-init
loop-k-init c =
    let g = c.args.graph.now in
    let same = length-nodes g c.nodes-count.result.now c.nodes-count.ensures.nodes in
    let own = c.in_ok-wholes.ensures in
    subst (λ (n : ℕ). AreWholes (action_of g) n c.in_ok-wholes.wholes.items) (sym same)
    (wholes-none (action_of g) c.in_ok-wholes.wholes.items (own.long ∙ same) (λ j less. own.own j (omega (arith, same, less))))

pub overflow_cast-k : goal.overflow_cast-k
overflow_cast-k c =
    let few = nodes-few c.args.graph.now c.nodes-count.result.now c.nodes-count.ensures.nodes c.nodes-count.ensures.of_an_action in
    omega (arith, few, c.loop-k.auto.k)

pub set_whole-requires : goal.set_whole-requires
set_whole-requires c =
    let long : length c.args.graph.now.nodes ≡ length c.loop-k.wholes.items = length-action c.args.graph.now ∙ sym c.loop-k.invariant.long in
    record { parts = subst (λ (n : ℕ). NamesNodes (c.loop-k.k - 1) n c.view.result) long c.view.ensures.names }

pub loop-k-preserved : goal.loop-k-preserved
loop-k-preserved c =
    let g = c.args.graph.now in
    let k = c.loop-k.k - 1 in
    let same = length-nodes g c.nodes-count.result.now c.nodes-count.ensures.nodes in
    let next : c.loop-k.k ≡ suc k = omega (arith, c.loop-k-test.true) in
    let less : k < length (action_of g) = omega (arith, same, c.loop-k.auto.k, c.loop-k-test.true) in
    let node = sym c.view.ensures.node in
    wholes-more (action_of g) k c.loop-k.wholes.items c.set_whole.new.wholes.items less
    (λ j h. parts-behind g.yielders k (length g.nodes) c.view.result c.view.ensures.names j (subst (λ (n : Node). is_listed j (parts_at n) ≡ true) c.view.ensures.node h))
    (subst (λ (n : ℕ). AreWholes (action_of g) n c.loop-k.wholes.items) next c.loop-k.invariant)
    (c.set_whole.ensures.wholes g.yielders ∙ ap (λ (n : Node). with_whole k (parts_at n) c.loop-k.wholes.items) node)

pub returns : goal.returns
returns c =
    let first : c.loop-k.k ≡ 0 = omega (arith, c.loop-k-test.false) in
    subst (λ (n : ℕ). AreWholes (action_of c.args.graph.now) n c.loop-k.wholes.items) first c.loop-k.invariant
