use Rattle.std.proofs.Common.{List, ap, subst, ◌++◌, ◌∙◌, ◌∷◌}
use Rattle.action_terms.specs.Forms.{yielder_at}
use Rattle.action_terms.specs.Steps.{closures_in}
use Rattle.action_terms.specs.declared.kinds.Sort.TheVariants as sort
use Rattle.sort_rules.specs.DemandViews.{demands_of}
use Rattle.sort_rules.specs.Demands.{Demand, completes, received_by, stores, value_at, wrong_at, ◌⊒◌}
use Rattle.sort_rules.specs.MarkedRows.{marked_table}
use Rattle.sort_rules.specs.Parts.{Part, join, when}
use Rattle.sort_rules.specs.Reached.{Adds}
use Rattle.sort_rules.specs.Tables.{BindsIn, Mark}
use Rattle.sort_rules.specs.Values.{clashes, nothing, strays}
use Rattle.sort_rules.specs.Views.{value_part}
use Rattle.sort_rules.proofs.AskedLaws.{both_wrong, marked_behind, two_behind}
use Rattle.sort_rules.proofs.Reaches.{adds_all, adds-more}
use Rattle.sort_rules.proofs.primitives.ask_store.Goals as goal

pub returns : goal.returns
returns c =
    let ls = c.args.graph.now.yielders in
    let t = marked_table c.args.site.now.rows.now in
    let k = c.args.site.now.node in
    let y1 = yielder_at ls c.args.datum in
    let y2 = yielder_at ls c.args.cell in
    let v1 = value_at t k y1 in
    let v2 = value_at t k y2 in
    let old = demands_of c.args.out.now.items in
    let stored = c.in_ok-stored.ensures in
    let to = c.in_ok-to.ensures in
    let lies = both_wrong _ _ (wrong_at t k y2) _ (strays sort.Cell v2) c.both_fit-lies.ensures to.wrong (c.lies_within.ensures ∙ ap (strays sort.Cell) to.value) in
    let clear = both_wrong _ _ (clashes v1) _ (join (wrong_at t k y2) (strays sort.Cell v2)) c.both_fit-clear.ensures (c.is_no_clash.ensures ∙ ap clashes stored.value) lies in
    let fits = both_wrong _ _ (wrong_at t k y1) _ (join (clashes v1) (join (wrong_at t k y2) (strays sort.Cell v2))) c.both_fit-fits.ensures stored.wrong clear in
    let listed = two_behind _ c.new-closures.result.items (closures_in y1) (closures_in y2) _ to.closures stored.closures in
    let marked = marked_behind (Mark k) (t (BindsIn k)) old (demands_of c.mark.new.out.items) _ _ _ _ (closures_in y1 ++ closures_in y2) c.in_ok-mark.ensures fits (c.as_slice.ensures.value ∙ listed) c.new-closures.ensures.items in
    let asked = (Mark k ⊒ join (wrong_at t k y1) (join (clashes v1) (join (wrong_at t k y2) (strays sort.Cell v2)))) ∷ received_by (t (BindsIn k)) (closures_in y1 ++ closures_in y2) in
    let before = demands_of c.mark.new.out.items in
    let then = demands_of c.ask_stores.new.out.items in
    let after = demands_of c.complete_where.new.out.items in
    let done = λ (v w : Part). completes k (when v (when w nothing)) (when v (when w nothing)) in
    let put : Adds before (stores v1 v2 c.args.site.now.cells.now) then =
    subst (λ (v : Part). Adds before (stores v v2 c.args.site.now.cells.now) then) stored.value
    (subst (λ (w : Part). Adds before (stores (value_part c.in_ok-stored.stored.value) w c.args.site.now.cells.now) then) to.value c.in_ok-ask_stores.ensures) in
    let last : Adds then (completes k (when v1 (when v2 nothing)) (when v1 (when v2 nothing))) after =
    adds_all then (done v1 v2) after (c.in_ok-complete_where.ensures ∙ ap (λ (ds : List Demand). then ++ ds) (ap (λ (v : Part). done v (value_part c.in_ok-to.to.value)) stored.value ∙ ap (done v1) to.value)) in
    adds-more old asked before (stores v1 v2 c.args.site.now.cells.now ++ done v1 v2) after (adds_all old asked before marked)
    (adds-more before (stores v1 v2 c.args.site.now.cells.now) then (done v1 v2) after put last)
