use Rattle.std.proofs.Common.{Bool, List, ap, false, length, refl, subst, sym, true, ℕ, ◌<◌, ◌||◌, ◌∙◌, ◌≡◌}
use Rattle.std.specs.Prelude.{not}
use Rattle.std.proofs.lemmas.Bool.{or_parts}
use Rattle.std.proofs.lemmas.List.{take_all}
use Rattle.action_terms.specs.Meaning.{action_of}
use Rattle.sort_rules.specs.DemandViews.{demand_of, demands_of}
use Rattle.sort_rules.specs.Demands.{demands}
use Rattle.sort_rules.specs.MarkedRows.{marked_table}
use Rattle.sort_rules.specs.Tests.{are_met, is_met}
use Rattle.sort_rules.specs.declared.demands.Demand.{Demand}
use Rattle.sort_rules.specs.declared.rows.MarkedRow.{MarkedRow}
use Rattle.sort_rules.proofs.HoldLaws.{holds-listed}
use Rattle.sort_rules.proofs.TestsTell.{holds-sound}
use Rattle.sort_infer.specs.Raised.{Grows}
use Rattle.sort_infer.proofs.AskedDemands.{asked_of, listed_one, listed_same, met_more}
use Rattle.sort_infer.proofs.Growing.{grows_refl, grows_trans, grows_unless_met, node_within}
use Rattle.sort_infer.proofs.Tours.{nodes-count}
use Rattle.sort_infer.proofs.raising.raise_all.Goals as goal
use Rattle.sort_infer.proofs.raising.raise_all.Goals.{then-grew, else-grew}

pub loop-demand-init : goal.loop-demand-init
loop-demand-init c = record { grows = grows_refl (action_of c.args.task.now.graph.now) c.args.rows.now.items c.requires.table; met = λ e. refl }

pub raise_unmet-requires : goal.raise_unmet-requires
raise_unmet-requires c = λ unmet.
    let a = action_of c.args.task.now.graph.now in
    let k = c.args.node in
    let first = c.args.rows.now.items in
    let old = c.loop-demand.rows.items in
    let ds = c.deref-demand-items.result.now in
    let inv = c.loop-demand.invariant in
    let within : c.args.node < length (action_of c.args.task.now.graph.now) = subst (λ (n : ℕ). c.args.node < n) (sym (nodes-count c.args.task.now.graph.now)) c.requires.node in
    let same = listed_same a k c.in_ok-demands.demands.items ds first c.as_slice.result.now c.deref-demand-items.ensures.value c.as_slice.ensures.value c.in_ok-demands.ensures in
    let asked = asked_of (marked_table old) (demand_of c.demand-item.result) (demands_of ds) (demands a (marked_table first) k) same (listed_one ds c.loop-demand.demand-index c.demand-item.result c.loop-demand-test.true c.demand-item.is) unmet in
    node_within a k first old c.requires.action within c.requires.table inv.grows.proper inv.grows.raised.above (demand_of c.demand-item.result) asked

pub loop-demand-preserved : goal.loop-demand-preserved
loop-demand-preserved c =
    let a = action_of c.args.task.now.graph.now in
    let k = c.args.node in
    let first = c.args.rows.now.items in
    let old = c.loop-demand.rows.items in
    let new = c.raise_unmet.new.rows.items in
    let g = c.loop-demand.grew in
    let r = c.in_ok-unmet.unmet in
    let d = demand_of c.demand-item.result in
    let ds = c.deref-demand-items.result.now in
    let inv = c.loop-demand.invariant in
    let within : c.args.node < length (action_of c.args.task.now.graph.now) = subst (λ (n : ℕ). c.args.node < n) (sym (nodes-count c.args.task.now.graph.now)) c.requires.node in
    let same = listed_same a k c.in_ok-demands.demands.items ds first c.as_slice.result.now c.deref-demand-items.ensures.value c.as_slice.ensures.value c.in_ok-demands.ensures in
    let one = listed_one ds c.loop-demand.demand-index c.demand-item.result c.loop-demand-test.true c.demand-item.is in
    let tells : c.if-grew.grew ≡ (c.loop-demand.grew || c.in_ok-unmet.unmet) = elim c.if-grew.branch [
      | then-grew w ↦ w.grew-is ∙ (w.if-grew.true ∙ sym (ap (λ (b : Bool). b || c.in_ok-unmet.unmet) w.if-grew.true))
      | else-grew w ↦ w.grew-is ∙ sym (ap (λ (b : Bool). b || c.in_ok-unmet.unmet) w.if-grew.false)
    ] in
    let step : Grows (action_of c.args.task.now.graph.now) c.in_ok-unmet.unmet c.loop-demand.rows.items c.raise_unmet.new.rows.items =
    grows_unless_met a k first old c.requires.action within c.requires.table inv.grows.proper inv.grows.raised.above d r new
    (λ unmet. asked_of (marked_table old) d (demands_of ds) (demands a (marked_table first) k) same one unmet)
    c.in_ok-unmet.ensures.met c.in_ok-unmet.ensures.same c.in_ok-unmet.ensures.joined c.in_ok-unmet.ensures.length in
    record {
      grows = subst (λ (b : Bool). Grows a b first new) (sym tells) (grows_trans a g r first old new inv.grows step);
      met = λ e.
          let parts : (c.loop-demand.grew ≡ false) × (c.in_ok-unmet.unmet ≡ false) = or_parts g r (sym tells ∙ e) in
          met_more (marked_table first) ds c.loop-demand.demand-index c.demand-item.result c.loop-demand-test.true c.demand-item.is (inv.met parts.0)
          (subst (λ (rows : List MarkedRow). is_met (marked_table rows) d ≡ true) (inv.grows.same parts.0) (sym c.in_ok-unmet.ensures.met ∙ ap not parts.1));
    }

pub returns-clause-holds : goal.returns-clause-holds
returns-clause-holds c = λ e.
    let a = action_of c.args.task.now.graph.now in
    let k = c.args.node in
    let first = c.args.rows.now.items in
    let t = marked_table first in
    let ds = c.deref-demand-items.result.now in
    let same = listed_same a k c.in_ok-demands.demands.items ds first c.as_slice.result.now c.deref-demand-items.ensures.value c.as_slice.ensures.value c.in_ok-demands.ensures in
    let met = subst (λ (zs : List Demand). are_met t (demands_of zs) ≡ true) (take_all c.loop-demand.demand-index ds c.loop-demand-test.false) (c.loop-demand.invariant.met e) in
    holds-sound a t k (sym (holds-listed a t k (demands_of ds) same) ∙ met)
