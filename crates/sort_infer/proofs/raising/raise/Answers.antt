use Rattle.std.proofs.Common.{ap, length, subst, sym, ◌<◌, ◌∙◌}
use Rattle.std.specs.Prelude.{Some}
use Rattle.std.proofs.lemmas.Option.{slice_get-get_or}
use Rattle.sort_rules.specs.DemandViews.{demand_of}
use Rattle.sort_rules.specs.declared.rows.MarkedRow.{MarkedRow}
use Rattle.sort_infer.proofs.RaisedRows.{set-raised}
use Rattle.sort_infer.proofs.raising.raise.Goals as goal

pub returns-clause-joined : goal.returns-clause-joined
returns-clause-joined c =
    let ms = c.args.rows.now.items in
    let r = c.index.result.now in
    let k = c.node_of-node.result in
    let within : c.node_of-node.result < length c.args.rows.now.items = subst (λ k. k < length c.args.rows.now.items) (sym c.node_of-node.ensures) c.requires in
    set-raised (demand_of c.args.demand) ms k r c.in_ok-row.row (slice_get-get_or ms k r within ∙ ap (λ (r : MarkedRow). Some r) (sym c.index.ensures)) c.node_of-node.ensures c.in_ok-row.ensures
