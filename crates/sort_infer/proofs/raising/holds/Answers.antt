use Rattle.std.proofs.Common.{List, ap, sym, ◌∙◌}
use Rattle.action_terms.specs.Meaning.{action_of}
use Rattle.sort_rules.specs.DemandViews.{demands_of}
use Rattle.sort_rules.specs.MarkedRows.{marked_table}
use Rattle.sort_rules.specs.Tests.{are_met}
use Rattle.sort_rules.specs.declared.demands.Demand.{Demand}
use Rattle.sort_rules.proofs.HoldLaws.{holds-listed}
use Rattle.sort_rules.proofs.TestsTell.{holds-sound}
use Rattle.sort_infer.proofs.raising.holds.Goals as goal

pub returns : goal.returns
returns c = λ e.
    let a = action_of c.args.task.now.graph.now in
    let t = marked_table c.args.rows.now in
    let ds = c.in_ok-demands.demands.items in
    holds-sound a t c.args.node (sym (holds-listed a t c.args.node (demands_of ds) c.in_ok-demands.ensures)
    ∙ sym (c.are_met.ensures ∙ ap (λ (ds : List Demand). are_met t (demands_of ds)) c.as_slice-2.ensures.value) ∙ e)
