use Rattle.std.proofs.Common.{◌≡◌, [], ◌∷◌, ◌++◌, false, map, refl, ap, sym, subst, ◌∙◌, arith}
use Rattle.rv_asm.specs.Assembly.{is_placed, total}
use Rattle.rv_asm.specs.declared.item.Item.TheVariants.{Jump, Mark, Plain}
use Rattle.rv_codegen.specs.Aliases.{list_at, lists_of}
use Rattle.rv_codegen.specs.Blocks.{start_of}
use Rattle.rv_codegen.specs.CaughtItems.{caught_items}
use Rattle.rv_codegen.proofs.Emitting.{OnOk-then, both-appended, mark-keeps, mark-short}
use Rattle.rv_codegen.proofs.Fresh.{fresh-jump, total-jump}
use Rattle.rv_codegen.proofs.handlers.append_handler.Goals as goal

pub returns-clause-items : goal.returns-clause-items
returns-clause-items c =
    let asm = c.args.asm.now in
    let s1 = c.place.new.self in
    let s2 = c.append_catch.new.asm in
    let caught = list_at (lists_of c.args.plan.given.now) c.args.right in
    let copies = map Plain (caught_items caught) in
    OnOk-then c.jump.result
    (λ e.
    let last = both-appended s1 s2 c.jump.new.self (map Plain (caught_items c.given_at.result.now)) (Jump c.start.result ∷ []) (Jump (start_of c.args.right) ∷ []) c.in_ok-append_catch.ensures.items e (ap (λ l. Jump l ∷ []) c.start.ensures) in
    let same = ap (λ os. map Plain (caught_items os) ++ (Jump (start_of c.args.right) ∷ [])) c.given_at.ensures.is in
    let all = last ∙ ap (λ is. record s1 { items = s1.items ++ is }) same in
    both-appended asm s1 c.jump.new.self (Mark c.joint.result ∷ []) (copies ++ (Jump (start_of c.args.right) ∷ [])) (copies ++ (Jump (start_of c.args.right) ∷ [])) c.place.ensures all refl
    ∙ ap (λ m. record asm { items = asm.items ++ (Mark m ∷ (copies ++ (Jump (start_of c.args.right) ∷ []))) }) c.joint.ensures)
    c.jump.ensures.ok

pub returns-clause-marks : goal.returns-clause-marks
returns-clause-marks c =
    let s2 = c.append_catch.new.asm in
    OnOk-then c.jump.result
    (λ e l ne h.
    let marked = mark-keeps c.args.asm.now c.place.new.self c.joint.result l c.place.ensures (λ q. ne (cc)) h in
    subst (λ z. is_placed z.items l ≡ false) (sym e) (fresh-jump s2.items c.start.result l (c.in_ok-append_catch.ensures.placed l ∙ marked)))
    c.jump.ensures.ok

pub returns-clause-short : goal.returns-clause-short
returns-clause-short c =
    let s2 = c.append_catch.new.asm in
    OnOk-then c.jump.result
    (λ e. omega (arith, ap (λ z. total z.items) e, total-jump s2.items c.start.result, c.in_ok-append_catch.ensures.short, mark-short c.args.asm.now c.place.new.self c.joint.result c.place.ensures))
    c.jump.ensures.ok
