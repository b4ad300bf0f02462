use Rattle.std.proofs.Common.{◌++◌, map, refl, ap, ◌∙◌, arith}
use Rattle.action_terms.specs.Forms.{items_at}
use Rattle.rv_asm.specs.Assembly.{total}
use Rattle.rv_asm.specs.declared.item.Item.TheVariants.{Plain}
use Rattle.rv_asm.proofs.Labels.{total-append}
use Rattle.rv_asm.proofs.Sending.{total-plain}
use Rattle.rv_codegen.specs.Aliases.{list_at, lists_of}
use Rattle.rv_codegen.specs.Blocks.{fail_label}
use Rattle.rv_codegen.specs.GivenItems.{escape_with_items, give_items, point_items}
use Rattle.rv_codegen.proofs.Emitting.{OnOk-then, both-appended, plain-keeps, piece-unplaced}
use Rattle.rv_codegen.proofs.ItemLengths.{give-short, length-point}
use Rattle.rv_codegen.proofs.escapes.append_row.Goals as goal

pub returns-clause-items : goal.returns-clause-items
returns-clause-items c =
    let asm = c.args.asm.now in
    let plan = c.args.plan in
    let is = items_at plan.graph.now.yielders c.args.items.now in
    let given = c.given_at.result.now in
    let os = c.escaped_at-escaped.result.now in
    let fail = plan.entries.now.fail in
    OnOk-then c.append_point.result
    (λ e.
    both-appended asm c.append_data.new.asm c.append_point.new.asm (give_items given os fail is) (map Plain (point_items os)) (map Plain (point_items os)) c.in_ok-append_data.ensures e refl
    ∙ ap (λ l. record asm { items = asm.items ++ escape_with_items given os l is }) plan.entries.now.fail_is
    ∙ ap (λ g. record asm { items = asm.items ++ escape_with_items g os fail_label is }) c.given_at.ensures.is
    ∙ ap (λ o. record asm { items = asm.items ++ escape_with_items (list_at (lists_of plan.given.now) c.args.k) o fail_label is }) c.escaped_at-escaped.ensures.is)
    c.append_point.ensures

pub returns-clause-marks : goal.returns-clause-marks
returns-clause-marks c =
    let asm = c.args.asm.now in
    let plan = c.args.plan in
    let is = items_at plan.graph.now.yielders c.args.items.now in
    let given = c.given_at.result.now in
    let os = c.escaped_at-escaped.result.now in
    let fail = plan.entries.now.fail in
    let short = give-short given os fail is c.given_at.ensures.reached c.escaped_at-escaped.ensures.reached in
    OnOk-then c.append_point.result
    (λ e l h. plain-keeps c.append_data.new.asm c.append_point.new.asm (point_items os) l e (piece-unplaced asm c.append_data.new.asm (give_items given os fail is) _ l short c.in_ok-append_data.ensures h))
    c.append_point.ensures

pub returns-clause-short : goal.returns-clause-short
returns-clause-short c =
    let asm = c.args.asm.now in
    let plan = c.args.plan in
    let is = items_at plan.graph.now.yielders c.args.items.now in
    let given = c.given_at.result.now in
    let os = c.escaped_at-escaped.result.now in
    let fail = plan.entries.now.fail in
    let short = give-short given os fail is c.given_at.ensures.reached c.escaped_at-escaped.ensures.reached in
    let data_size = ap (λ z. total z.items) c.in_ok-append_data.ensures ∙ total-append asm.items (give_items given os fail is) in
    OnOk-then c.append_point.result
    (λ e. omega (arith, data_size, short.few, ap (λ z. total z.items) e, total-append c.append_data.new.asm.items (map Plain (point_items os)), total-plain (point_items os), length-point os))
    c.append_point.ensures
