use Rattle.std.proofs.Common.{ap, sym, ◌∙◌}
use Rattle.action_terms.specs.Forms.{yielder_at}
use Rattle.action_terms.specs.declared.kinds.Sort.TheVariants as sort
use Rattle.sort_rules.specs.Asked.{sort_demands}
use Rattle.sort_rules.specs.DemandViews.{demands_of}
use Rattle.sort_rules.specs.Demands.{reached_if}
use Rattle.sort_rules.specs.MarkedRows.{marked_table}
use Rattle.sort_rules.proofs.Reaches.{adds_all, decision-dead, decision-live}
use Rattle.sort_rules.proofs.nodes.ask_decision.Goals as goal

pub returns-then-is_live-clause-asked : goal.returns-then-is_live-clause-asked
returns-then-is_live-clause-asked c =
    let t = marked_table c.args.site.now.rows.now in
    let k = c.args.site.now.node in
    let y = yielder_at c.args.graph.now.yielders c.args.number in
    let old = demands_of c.args.out.now.items in
    let new = demands_of c.ask_sort.new.out.items in
    decision-live t k y old new (sym (ap reached_if c.if-is_live.true) ∙ c.is_live.ensures) (adds_all old (sort_demands t k sort.Truth y) new c.in_ok-value.ensures.asked)

pub returns-clause-asked : goal.returns-clause-asked
returns-clause-asked c =
    let t = marked_table c.args.site.now.rows.now in
    decision-dead t c.args.site.now.node (yielder_at c.args.graph.now.yielders c.args.number) (demands_of c.args.out.now.items) (sym (ap reached_if c.if-is_live.false) ∙ c.is_live.ensures)
