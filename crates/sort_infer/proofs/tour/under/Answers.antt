use Rattle.std.proofs.Common.{List, ap, ℕ, ◌++◌, ◌∙◌}
use Rattle.std.specs.Prelude.{reverse}
use Rattle.action_terms.specs.Forms.{node_viewed}
use Rattle.sort_rules.specs.Demands.{closures_at}
use Rattle.sort_infer.specs.Tours.{parts_of}
use Rattle.sort_infer.proofs.Tours.{under-within}
use Rattle.sort_infer.proofs.tour.under.Goals as goal

pub returns : goal.returns
returns c =
    let bodies = reverse (closures_at (node_viewed c.args.graph.now.yielders c.view-view.result)) in
    under-within c.args.graph.now c.args.node c.view-view.result c.push_node_closures.new.bodies.items c.requires.action c.view-view.ensures
    (c.in_ok-push_node_closures.ensures ∙ ap (λ (zs : List ℕ). zs ++ bodies) c.in_ok-push_parts.ensures ∙ ap (λ (zs : List ℕ). (zs ++ parts_of c.view-view.result) ++ bodies) c.new-nodes.ensures.items)
