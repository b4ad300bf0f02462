use Rattle.std.proofs.Common.{Bool, ap, length, subst, sym, ℕ, ◌<◌, ◌||◌, ◌∙◌, ◌≡◌}
use Rattle.std.proofs.lemmas.Bool.{ltb-true}
use Rattle.std.proofs.lemmas.List.Elements.{All-get_or}
use Rattle.action_terms.specs.Meaning.{action_of}
use Rattle.sort_infer.specs.Raised.{Grows}
use Rattle.sort_infer.proofs.Growing.{grows_refl, grows_trans}
use Rattle.sort_infer.proofs.settling.drain.Goals as goal
use Rattle.sort_infer.proofs.settling.drain.Goals.{then-grew, else-grew}

pub loop-visit-init : goal.loop-visit-init
loop-visit-init c = grows_refl (action_of c.args.task.now.graph.now) c.args.rows.now.items c.requires.table

pub visit-requires-clause-node : goal.visit-requires-clause-node
visit-requires-clause-node c =
    let within : c.in-Some.place < length c.args.tour.now = ltb-true c.in-Some.place (length c.args.tour.now) (sym c.in-Some-get.ensures.lookup.0) in
    subst (λ (k : ℕ). k < length c.args.task.now.graph.now.nodes) (sym c.in-Some-get.ensures.lookup.1) (All-get_or (λ k. k < length c.args.task.now.graph.now.nodes) c.args.tour.now c.in-Some.place _ within c.requires.order)

pub visit-requires-clause-table : goal.visit-requires-clause-table
visit-requires-clause-table c = c.loop-visit.invariant.proper

pub loop-visit-preserved : goal.loop-visit-preserved
loop-visit-preserved c =
    let a = action_of c.args.task.now.graph.now in
    let tells : c.if-grew.grew ≡ (c.loop-visit.grew || c.in_ok-raised.raised) = elim c.if-grew.branch [
      | then-grew w ↦ w.grew-is ∙ (w.if-grew.true ∙ sym (ap (λ (b : Bool). b || c.in_ok-raised.raised) w.if-grew.true))
      | else-grew w ↦ w.grew-is ∙ sym (ap (λ (b : Bool). b || c.in_ok-raised.raised) w.if-grew.false)
    ] in
    subst (λ (b : Bool). Grows a b c.args.rows.now.items c.visit.new.rows.items) (sym tells)
    (grows_trans a c.loop-visit.grew c.in_ok-raised.raised c.args.rows.now.items c.loop-visit.rows.items c.visit.new.rows.items c.loop-visit.invariant c.in_ok-raised.ensures.grows)
