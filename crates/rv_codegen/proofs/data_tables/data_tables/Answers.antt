use Rattle.std.proofs.Common.{List, ap, arith, length, map, subst, sym, ℕ, ◌+◌, ◌<◌, ◌≡◌, ◌∙◌}
use Rattle.std.specs.List.{range_with_len}
use Rattle.action_terms.specs.Meaning.{action_of}
use Rattle.sort_rules.proofs.NodeWalks.{length-nodes, nodes-few}
use Rattle.frame_layout.specs.Places.{placed_node}
use Rattle.frame_layout.proofs.GraphParts.{trees-of_graph}
use Rattle.rv_codegen.specs.Aliases.{given_in, lists_of, out_in, place_at}
use Rattle.rv_codegen.proofs.GraphNodes.{length-action_of}
use Rattle.rv_codegen.proofs.HandedTables.{AreHandedBelow, handed-all, handed-more, handed-none, own-more}
use Rattle.rv_codegen.proofs.data_tables.data_tables.Goals as goal

pub overflow_cast-node : goal.overflow_cast-node
overflow_cast-node c = omega (arith, nodes-few c.args.graph.now c.nodes-count.result.now c.nodes-count.ensures.nodes c.nodes-count.ensures.of_an_action, c.loop-node-test.true)

pub overflow_cast-node-in-loop-node : goal.overflow_cast-node-in-loop-node
overflow_cast-node-in-loop-node c = omega (arith, nodes-few c.args.graph.now c.nodes-count.result.now c.nodes-count.ensures.nodes c.nodes-count.ensures.of_an_action, c.loop-node-test.true)

pub loop-node-preserved : goal.loop-node-preserved
loop-node-preserved c =
    let p = place_at (map placed_node c.args.places.now) in
    record {
      given = ap lists_of c.in_ok-push.ensures.items ∙ own-more (λ k. (p k).data_in) c.loop-node.given.items c.own_given.result c.loop-node.node c.own_given.ensures c.loop-node.invariant.given;
      out = ap lists_of c.in_ok-push-2.ensures.items ∙ own-more (λ k. (p k).data_out) c.loop-node.out.items c.own_out.result c.loop-node.node c.own_out.ensures c.loop-node.invariant.out;
      given_len = omega (arith, c.in_ok-push.ensures.len, c.loop-node.invariant.given_len);
      out_len = omega (arith, c.in_ok-push-2.ensures.len, c.loop-node.invariant.out_len);
    }

pub loop-node-2-init : goal.loop-node-2-init
loop-node-2-init c =
    let a = action_of c.args.graph.now in
    let p = place_at (map placed_node c.args.places.now) in
    let count = length-nodes c.args.graph.now c.nodes-count.result.now c.nodes-count.ensures.nodes in
    let all : c.loop-node.node ≡ length a = omega (arith, count, c.loop-node-test.false, c.loop-node.auto.node-end) in
    let own_in : ℕ → List ℕ = λ k. (p k).data_in in
    let own_out : ℕ → List ℕ = λ k. (p k).data_out in
    record {
      given = handed-none a (given_in p) own_in (lists_of c.loop-node.given.items) (c.loop-node.invariant.given ∙ ap (λ (n : ℕ). map own_in (range_with_len 0 n)) all);
      out = handed-none a (out_in p) own_out (lists_of c.loop-node.out.items) (c.loop-node.invariant.out ∙ ap (λ (n : ℕ). map own_out (range_with_len 0 n)) all);
      given_len = omega (arith, c.loop-node.invariant.given_len, c.loop-node-test.false, c.loop-node.auto.node-end);
      out_len = omega (arith, c.loop-node.invariant.out_len, c.loop-node-test.false, c.loop-node.auto.node-end);
    }

pub loop-node-2-preserved : goal.loop-node-2-preserved
loop-node-2-preserved c =
    let g = c.args.graph.now in
    let a = action_of g in
    let p = place_at (map placed_node c.args.places.now) in
    let k = c.loop-node-2.node in
    let trees = trees-of_graph g c.nodes-count.ensures.of_an_action in
    let count = length-nodes g c.nodes-count.result.now c.nodes-count.ensures.nodes in
    let within : k < length a = omega (arith, count, c.loop-node-2-test.true) in
    let own_in : ℕ → List ℕ = λ k. (p k).data_in in
    let own_out : ℕ → List ℕ = λ k. (p k).data_out in
    record {
      given = subst (AreHandedBelow a (given_in p) own_in (k + 1)) (sym c.pass_givens.ensures.givens) (handed-more a trees (given_in p) own_in k (lists_of c.loop-node-2.given.items) c.loop-node-2.invariant.given within);
      out = subst (AreHandedBelow a (out_in p) own_out (k + 1)) (sym c.pass_outs.ensures.outs) (handed-more a trees (out_in p) own_out k (lists_of c.loop-node-2.out.items) c.loop-node-2.invariant.out within);
      given_len = c.pass_givens.ensures.len ∙ c.loop-node-2.invariant.given_len;
      out_len = c.pass_outs.ensures.len ∙ c.loop-node-2.invariant.out_len;
    }

pub returns-clause-given : goal.returns-clause-given
returns-clause-given c = λ k less.
    let g = c.args.graph.now in
    let p = place_at (map placed_node c.args.places.now) in
    let count = length-nodes g c.nodes-count.result.now c.nodes-count.ensures.nodes in
    handed-all (action_of g) (trees-of_graph g c.nodes-count.ensures.of_an_action) (given_in p) (λ k. (p k).data_in) c.loop-node-2.node (lists_of c.loop-node-2.given.items) c.loop-node-2.invariant.given
    (omega (arith, count, c.loop-node-2-test.false)) k (omega (arith, less, length-action_of g))

pub returns-clause-out : goal.returns-clause-out
returns-clause-out c = λ k less.
    let g = c.args.graph.now in
    let p = place_at (map placed_node c.args.places.now) in
    let count = length-nodes g c.nodes-count.result.now c.nodes-count.ensures.nodes in
    handed-all (action_of g) (trees-of_graph g c.nodes-count.ensures.of_an_action) (out_in p) (λ k. (p k).data_out) c.loop-node-2.node (lists_of c.loop-node-2.out.items) c.loop-node-2.invariant.out
    (omega (arith, count, c.loop-node-2-test.false)) k (omega (arith, less, length-action_of g))

pub returns-clause-given_count : goal.returns-clause-given_count
returns-clause-given_count c =
    let g = c.args.graph.now in
    omega (arith, c.loop-node-2.invariant.given_len, length-nodes g c.nodes-count.result.now c.nodes-count.ensures.nodes, length-action_of g)

pub returns-clause-out_count : goal.returns-clause-out_count
returns-clause-out_count c =
    let g = c.args.graph.now in
    omega (arith, c.loop-node-2.invariant.out_len, length-nodes g c.nodes-count.result.now c.nodes-count.ensures.nodes, length-action_of g)
