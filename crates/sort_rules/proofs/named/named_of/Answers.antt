use Rattle.std.proofs.Common.{List, arith, length, subst, ℕ}
use Rattle.action_terms.specs.Meaning.{action_of}
use Rattle.action_terms.specs.Performances.{OneOf}
use Rattle.sort_rules.proofs.ActionNumbers.{all_below, allocates_from-below, closure_bodies-below}
use Rattle.sort_rules.proofs.NodeWalks.{length-nodes}
use Rattle.sort_rules.proofs.named.named_of.Goals as goal

pub make-requires : goal.make-requires
make-requires c =
    let a = action_of c.args.graph.now in
    let count = length-nodes c.args.graph.now c.nodes-count.result.now c.nodes-count.ensures.nodes in
    all_below (length c.nodes-count.result.now) c.in_ok-cells.cells.items
    (λ k m. omega (arith, count, allocates_from-below 0 (action_of c.args.graph.now) k (subst (λ (ns : List ℕ). OneOf k ns) c.in_ok-cells.ensures m)))

pub make-requires-2 : goal.make-requires-2
make-requires-2 c =
    let a = action_of c.args.graph.now in
    let count = length-nodes c.args.graph.now c.nodes-count.result.now c.nodes-count.ensures.nodes in
    all_below (length c.nodes-count.result.now) c.in_ok-bodies.bodies.items
    (λ k m. omega (arith, count, closure_bodies-below (length (action_of c.args.graph.now)) (action_of c.args.graph.now) k c.nodes-count.ensures.proper.nodes (subst (λ (ns : List ℕ). OneOf k ns) c.in_ok-bodies.ensures m)))
