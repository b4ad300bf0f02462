use Rattle.std.proofs.Common.{ap, sym, ◌∙◌}
use Rattle.action_terms.specs.Forms.{primitive_viewed}
use Rattle.sort_rules.specs.DemandViews.{demands_of}
use Rattle.sort_rules.specs.Demands.{live_at, primitive_demands, reached_if}
use Rattle.sort_rules.specs.MarkedRows.{marked_table}
use Rattle.sort_rules.proofs.Reaches.{adds-dead, adds-live}
use Rattle.sort_rules.proofs.nodes.ask_simple.Goals as goal

pub returns-in_ok-ask_primitive : goal.returns-in_ok-ask_primitive
returns-in_ok-ask_primitive c = λ bodies.
    let site = c.args.site.now in
    let t = marked_table site.rows.now in
    adds-live (live_at t site.node) (demands_of c.args.out.now.items) (primitive_demands site.cells.now t site.node (primitive_viewed c.args.graph.now.yielders c.args.primitive)) (demands_of c.ask_primitive.new.out.items)
    (sym (ap reached_if c.if-is_live.true) ∙ c.is_live.ensures) c.in_ok-ask_primitive.ensures

pub returns-else-is_live : goal.returns-else-is_live
returns-else-is_live c = λ bodies.
    let site = c.args.site.now in
    let t = marked_table site.rows.now in
    adds-dead (live_at t site.node) (demands_of c.args.out.now.items) (primitive_demands site.cells.now t site.node (primitive_viewed c.args.graph.now.yielders c.args.primitive))
    (sym (ap reached_if c.if-is_live.false) ∙ c.is_live.ensures)
