use Rattle.std.proofs.Common.{◌≡◌, [], ◌∷◌, false, ap, sym, subst, arith}
use Rattle.action_terms.specs.Forms.{items_at}
use Rattle.rv_asm.specs.Assembly.{is_placed, total}
use Rattle.rv_asm.specs.declared.item.Item.TheVariants.{Jump}
use Rattle.rv_codegen.specs.Aliases.{list_at, lists_of}
use Rattle.rv_codegen.specs.Blocks.{escape_label, fail_label}
use Rattle.rv_codegen.specs.GivenItems.{escape_with_items}
use Rattle.rv_codegen.proofs.Emitting.{OnOk-then, both-appended}
use Rattle.rv_codegen.proofs.Fresh.{fresh-jump, total-jump}
use Rattle.rv_codegen.proofs.escapes.append_escape_with.Goals as goal

pub returns-clause-items : goal.returns-clause-items
returns-clause-items c =
    let asm = c.args.asm.now in
    let plan = c.args.plan in
    let k = c.args.k in
    let row = escape_with_items (list_at (lists_of plan.given.now) k) (list_at (lists_of plan.escaped.now) k) fail_label (items_at plan.graph.now.yielders c.args.items.now) in
    OnOk-then c.jump.result
    (λ e. both-appended asm c.append_row.new.asm c.jump.new.self row (Jump plan.entries.now.escape ∷ []) (Jump escape_label ∷ []) c.in_ok-append_row.ensures.items e (ap (λ l. Jump l ∷ []) plan.entries.now.escape_is))
    c.jump.ensures.ok

pub returns-clause-marks : goal.returns-clause-marks
returns-clause-marks c =
    OnOk-then c.jump.result
    (λ e l ne nj h. subst (λ z. is_placed z.items l ≡ false) (sym e) (fresh-jump c.append_row.new.asm.items c.args.plan.entries.now.escape l (c.in_ok-append_row.ensures.marks l h)))
    c.jump.ensures.ok

pub returns-clause-short : goal.returns-clause-short
returns-clause-short c =
    OnOk-then c.jump.result
    (λ e. omega (arith, ap (λ z. total z.items) e, total-jump c.append_row.new.asm.items c.args.plan.entries.now.escape, c.in_ok-append_row.ensures.short))
    c.jump.ensures.ok
