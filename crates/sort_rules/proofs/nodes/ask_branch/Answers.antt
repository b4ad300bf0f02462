use Rattle.std.proofs.Common.{ap, ◌++◌, ◌∙◌, ◌≡◌}
use Rattle.action_terms.specs.Forms.{yielder_at}
use Rattle.sort_rules.specs.Asked.{arm_ends, decision_demands}
use Rattle.sort_rules.specs.DemandViews.{demands_of}
use Rattle.sort_rules.specs.Demands.{arms, handed, live_at, value_at}
use Rattle.sort_rules.specs.MarkedRows.{marked_table}
use Rattle.sort_rules.specs.Parts.{Part, when}
use Rattle.sort_rules.specs.Tables.{BindsIn, DataIn}
use Rattle.sort_rules.specs.Views.{value_part}
use Rattle.sort_rules.proofs.Reaches.{adds-more, adds_all, arms-behind}
use Rattle.sort_rules.proofs.nodes.ask_branch.Goals as goal

pub returns : goal.returns
returns c = λ cells bodies.
    let t = marked_table c.args.site.now.rows.now in
    let k = c.args.site.now.node in
    let l = c.args.left in
    let r = c.args.right in
    let y = yielder_at c.args.graph.now.yielders c.args.number in
    let v = when (live_at t k) (value_at t k y) in
    let w = value_part c.in_ok-value.value in
    let old = demands_of c.args.out.now.items in
    let mid = demands_of c.ask_decision.new.out.items in
    let handed_l = handed l (t (DataIn k)) (t (BindsIn k)) in
    let handed_r = handed r (t (DataIn k)) (t (BindsIn k)) in
    let new = demands_of c.end_like_arm-2.new.out.items in
    let all = arms-behind mid _ _ new handed_l handed_r (arm_ends t k w l) (arm_ends t k w r) c.in_ok-hand_both.ensures c.in_ok-end_like_arm.ensures c.in_ok-end_like_arm-2.ensures in
    let armed : new ≡ mid ++ arms t k v l r = all ∙ ap (λ (v : Part). mid ++ arms t k v l r) c.in_ok-value.ensures.value in
    adds-more old (decision_demands t k y) mid (arms t k v l r) new c.in_ok-value.ensures.asked (adds_all mid (arms t k v l r) new armed)
