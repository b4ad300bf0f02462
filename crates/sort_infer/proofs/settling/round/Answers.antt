use Rattle.std.proofs.Common.{All, Bool, List, ap, false, get_or, length, subst, sym, ℕ, ◌<◌, ◌||◌, ◌∙◌, ◌≡◌}
use Rattle.std.proofs.lemmas.Bool.{or_parts}
use Rattle.std.proofs.lemmas.List.{take_all}
use Rattle.std.proofs.lemmas.List.Elements.{All-get_or, All-more, All-nil}
use Rattle.action_terms.specs.Meaning.{action_of}
use Rattle.sort_rules.specs.Admissible.{Holds}
use Rattle.sort_rules.specs.MarkedRows.{marked_table}
use Rattle.sort_rules.specs.declared.rows.MarkedRow.{MarkedRow}
use Rattle.sort_infer.specs.Raised.{Grows}
use Rattle.sort_infer.proofs.Growing.{grows_refl, grows_trans}
use Rattle.sort_infer.proofs.settling.round.Goals as goal
use Rattle.sort_infer.proofs.settling.round.Goals.{then-grew, else-grew}

pub loop-node-init : goal.loop-node-init
loop-node-init c = record { grows = grows_refl (action_of c.args.task.now.graph.now) c.args.rows.now.items c.requires.table; hold = λ e. All-nil (Holds (action_of c.args.task.now.graph.now) (marked_table c.args.rows.now.items)) }

pub visit-requires-clause-node : goal.visit-requires-clause-node
visit-requires-clause-node c = All-get_or (λ k. k < length c.args.task.now.graph.now.nodes) c.args.order.now c.loop-node.node-index 0 c.loop-node-test.true c.requires.order

pub visit-requires-clause-table : goal.visit-requires-clause-table
visit-requires-clause-table c = c.loop-node.invariant.grows.proper

pub loop-node-preserved : goal.loop-node-preserved
loop-node-preserved c =
    let a = action_of c.args.task.now.graph.now in
    let first = c.args.rows.now.items in
    let old = c.loop-node.rows.items in
    let new = c.visit.new.rows.items in
    let g = c.loop-node.grew in
    let r = c.in_ok-raised.raised in
    let k = get_or c.args.order.now c.loop-node.node-index 0 in
    let inv = c.loop-node.invariant in
    let tells : c.if-grew.grew ≡ (c.loop-node.grew || c.in_ok-raised.raised) = elim c.if-grew.branch [
      | then-grew w ↦ w.grew-is ∙ (w.if-grew.true ∙ sym (ap (λ (b : Bool). b || c.in_ok-raised.raised) w.if-grew.true))
      | else-grew w ↦ w.grew-is ∙ sym (ap (λ (b : Bool). b || c.in_ok-raised.raised) w.if-grew.false)
    ] in
    record {
      grows = subst (λ (b : Bool). Grows a b first new) (sym tells) (grows_trans a g r first old new inv.grows c.in_ok-raised.ensures.grows);
      hold = λ e.
          let parts : (c.loop-node.grew ≡ false) × (c.in_ok-raised.raised ≡ false) = or_parts g r (sym tells ∙ e) in
          All-more (Holds a (marked_table first)) c.args.order.now c.loop-node.node-index 0 c.loop-node-test.true (inv.hold parts.0)
          (subst (λ (rows : List MarkedRow). Holds a (marked_table rows) k) (inv.grows.same parts.0) (c.in_ok-raised.ensures.holds parts.1));
    }

pub returns-clause-hold : goal.returns-clause-hold
returns-clause-hold c = λ e. subst (λ (zs : List ℕ). All (Holds (action_of c.args.task.now.graph.now) (marked_table c.args.rows.now.items)) zs) (take_all c.loop-node.node-index c.args.order.now c.loop-node-test.false) (c.loop-node.invariant.hold e)
