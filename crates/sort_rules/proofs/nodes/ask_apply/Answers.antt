use Rattle.std.proofs.Common.{List, ap, subst, sym, ℕ, ◌++◌, ◌∙◌, ◌∷◌}
use Rattle.action_terms.specs.Actions.{Item, Yielder}
use Rattle.action_terms.specs.Forms.{items_at as listed_items, yielder_at}
use Rattle.action_terms.specs.Steps.{closures_in, closures_in_items}
use Rattle.action_terms.specs.declared.kinds.Sort.TheVariants as sort
use Rattle.sort_rules.specs.DemandViews.{demands_of}
use Rattle.sort_rules.specs.Demands.{Demand, enacts, items_at, items_wrong_at, live_at, reached_if, received_by, value_at, wrong_at, ◌⊒◌}
use Rattle.sort_rules.specs.MarkedRows.{marked_table}
use Rattle.sort_rules.specs.Parts.{Part, join}
use Rattle.sort_rules.specs.Reached.{Adds}
use Rattle.sort_rules.specs.Tables.{BindsIn, Mark, MarkedTable}
use Rattle.sort_rules.specs.Values.{strays}
use Rattle.sort_rules.specs.Views.{value_part}
use Rattle.sort_rules.proofs.AskedLaws.{both_wrong, marked_behind, two_behind}
use Rattle.sort_rules.proofs.Reaches.{adds-dead, adds-live, adds-more, adds_all}
use Rattle.sort_rules.proofs.nodes.ask_apply.Goals as goal

-- what is asked of the operands
abbrev operands : MarkedTable → ℕ → Yielder → List Item → List Demand
operands t k y is =
    (Mark k ⊒ join (join (wrong_at t k y) (strays sort.Abstraction (value_at t k y))) (items_wrong_at t k is)) ∷ received_by (t (BindsIn k)) (closures_in y ++ closures_in_items is)

-- the demands of a live node
abbrev asked : (bodies : List ℕ) → MarkedTable → ℕ → Yielder → List Item → List Demand
asked bodies t k y is = operands t k y is ++ enacts t k (value_at t k y) (items_at t k is) bodies

pub returns-in_ok-ask_enacts : goal.returns-in_ok-ask_enacts
returns-in_ok-ask_enacts c = λ cells.
    let site = c.args.site.now in
    let t = marked_table site.rows.now in
    let k = site.node in
    let y = yielder_at c.args.graph.now.yielders c.args.number in
    let is = listed_items c.args.graph.now.yielders c.args.items.now in
    let old = demands_of c.args.out.now.items in
    let mid = demands_of c.mark.new.out.items in
    let new = demands_of c.ask_enacts.new.out.items in
    let bodies = site.bodies.now in
    let called = c.in_ok-called.ensures in
    let given = c.in_ok-given.ensures in
    let calls = both_wrong _ _ (wrong_at t k y) _ (strays sort.Abstraction (value_at t k y)) c.both_fit-calls.ensures called.wrong (c.lies_within.ensures ∙ ap (strays sort.Abstraction) called.value) in
    let fits = both_wrong _ _ (join (wrong_at t k y) (strays sort.Abstraction (value_at t k y))) _ (items_wrong_at t k is) c.both_fit-fits.ensures calls given.wrong in
    let listed = two_behind _ c.new-closures.result.items (closures_in y) (closures_in_items is) _ given.closures called.closures in
    let marked = marked_behind (Mark k) (t (BindsIn k)) old mid _ _ _ _ (closures_in y ++ closures_in_items is) c.in_ok-mark.ensures fits (c.as_slice.ensures.value ∙ listed) c.new-closures.ensures.items in
    let put : Adds mid (enacts t k (value_at t k y) (items_at t k is) bodies) new =
    subst (λ (v : Part). Adds mid (enacts t k v (items_at t k is) bodies) new) called.value
    (subst (λ (d : Part). Adds mid (enacts t k (value_part c.in_ok-called.called.value) d bodies) new) given.value c.in_ok-ask_enacts.ensures) in
    adds-live (live_at t k) old (asked bodies t k y is) new (sym (ap reached_if c.if-is_live.true) ∙ c.is_live.ensures)
    (adds-more old (operands t k y is) mid (enacts t k (value_at t k y) (items_at t k is) bodies) new (adds_all old (operands t k y is) mid marked) put)

pub returns-else-is_live : goal.returns-else-is_live
returns-else-is_live c = λ cells.
    let site = c.args.site.now in
    let t = marked_table site.rows.now in
    adds-dead (live_at t site.node) (demands_of c.args.out.now.items)
    (asked site.bodies.now t site.node (yielder_at c.args.graph.now.yielders c.args.number) (listed_items c.args.graph.now.yielders c.args.items.now))
    (sym (ap reached_if c.if-is_live.false) ∙ c.is_live.ensures)
