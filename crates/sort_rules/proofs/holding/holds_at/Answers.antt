use Rattle.std.proofs.Common.{List, ap, ◌∙◌}
use Rattle.action_terms.specs.Meaning.{action_of}
use Rattle.sort_rules.specs.DemandViews.{demands_of}
use Rattle.sort_rules.specs.MarkedRows.{marked_table}
use Rattle.sort_rules.specs.Tests.{are_met}
use Rattle.sort_rules.specs.declared.demands.Demand.{Demand}
use Rattle.sort_rules.proofs.HoldLaws.{holds-listed}
use Rattle.sort_rules.proofs.holding.holds_at.Goals as goal

pub returns : goal.returns
returns c =
    let t = marked_table c.args.site.now.rows.now in
    let ds = c.in_ok-demands.demands.items in
    c.are_met.ensures ∙ ap (λ (ds : List Demand). are_met t (demands_of ds)) c.as_slice.ensures.value
    ∙ holds-listed (action_of c.args.graph.now) t c.args.site.now.node (demands_of ds) c.in_ok-demands.ensures
