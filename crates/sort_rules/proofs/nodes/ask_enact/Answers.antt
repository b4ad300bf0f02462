use Rattle.std.proofs.Common.{List, ap, subst, sym, ℕ, ◌++◌, ◌∙◌}
use Rattle.action_terms.specs.Actions.{Yielder}
use Rattle.action_terms.specs.Forms.{yielder_at}
use Rattle.action_terms.specs.declared.kinds.Sort.TheVariants as sort
use Rattle.sort_rules.specs.Asked.{sort_demands}
use Rattle.sort_rules.specs.DemandViews.{demands_of}
use Rattle.sort_rules.specs.Demands.{Demand, enacts, live_at, reached_if, value_at}
use Rattle.sort_rules.specs.MarkedRows.{marked_table}
use Rattle.sort_rules.specs.Parts.{Part}
use Rattle.sort_rules.specs.Reached.{Adds}
use Rattle.sort_rules.specs.Tables.{MarkedTable}
use Rattle.sort_rules.specs.Values.{nothing}
use Rattle.sort_rules.proofs.Reaches.{adds-dead, adds-live, adds-more, adds_all}
use Rattle.sort_rules.proofs.nodes.ask_enact.Goals as goal

-- the demands of a live node
abbrev asked : (bodies : List ℕ) → MarkedTable → ℕ → Yielder → List Demand
asked bodies t k y = sort_demands t k sort.Abstraction y ++ enacts t k (value_at t k y) nothing bodies

pub returns-in_ok-ask_enacts : goal.returns-in_ok-ask_enacts
returns-in_ok-ask_enacts c = λ cells.
    let site = c.args.site.now in
    let t = marked_table site.rows.now in
    let y = yielder_at c.args.graph.now.yielders c.args.number in
    let old = demands_of c.args.out.now.items in
    let mid = demands_of c.ask_sort.new.out.items in
    let new = demands_of c.ask_enacts.new.out.items in
    let bodies = site.bodies.now in
    let put : Adds mid (enacts t site.node (value_at t site.node y) nothing bodies) new =
    subst (λ (v : Part). Adds mid (enacts t site.node v nothing bodies) new) c.in_ok-value.ensures.value c.in_ok-ask_enacts.ensures in
    adds-live (live_at t site.node) old (asked bodies t site.node y) new (sym (ap reached_if c.if-is_live.true) ∙ c.is_live.ensures)
    (adds-more old (sort_demands t site.node sort.Abstraction y) mid (enacts t site.node (value_at t site.node y) nothing bodies) new
    (adds_all old (sort_demands t site.node sort.Abstraction y) mid c.in_ok-value.ensures.asked) put)

pub returns-else-is_live : goal.returns-else-is_live
returns-else-is_live c = λ cells.
    let site = c.args.site.now in
    let t = marked_table site.rows.now in
    adds-dead (live_at t site.node) (demands_of c.args.out.now.items) (asked site.bodies.now t site.node (yielder_at c.args.graph.now.yielders c.args.number)) (sym (ap reached_if c.if-is_live.false) ∙ c.is_live.ensures)
