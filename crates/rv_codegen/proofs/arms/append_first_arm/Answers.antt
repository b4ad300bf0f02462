use Rattle.std.proofs.Common.{◌≡◌, [], ◌∷◌, ◌++◌, false, ap, sym, subst, ◌∙◌, arith}
use Rattle.std.specs.Prelude.{slice_index}
use Rattle.rv_asm.specs.Assembly.{is_placed, total}
use Rattle.rv_asm.specs.declared.item.Item.TheVariants.{Jump}
use Rattle.rv_prelude.specs.Pieces.{open_alternative_items}
use Rattle.rv_codegen.specs.Blocks.{front_of, start_of}
use Rattle.rv_codegen.proofs.Emitting.{OnOk-then, both-appended}
use Rattle.rv_codegen.proofs.Fresh.{fresh-jump, total-jump}
use Rattle.rv_codegen.proofs.arms.append_first_arm.Goals as goal

pub returns-clause-items : goal.returns-clause-items
returns-clause-items c =
    let asm = c.args.asm.now in
    let s1 = c.open_alternative.new.asm in
    let keep = slice_index c.args.plan.keeps.now c.args.k in
    let right = c.args.right in
    let first : s1 ≡ record asm { items = asm.items ++ open_alternative_items keep (front_of right) } =
    c.in_ok-open_alternative.ensures.ok
    ∙ ap (λ q. record asm { items = asm.items ++ open_alternative_items q c.front.result }) c.keep_at.ensures.is
    ∙ ap (λ q. record asm { items = asm.items ++ open_alternative_items keep q }) c.front.ensures in
    OnOk-then c.jump.result
    (λ e. both-appended asm s1 c.jump.new.self (open_alternative_items keep (front_of right)) (Jump c.start.result ∷ []) (Jump (start_of c.args.left) ∷ []) first e (ap (λ l. Jump l ∷ []) c.start.ensures))
    c.jump.ensures.ok

pub returns-clause-marks : goal.returns-clause-marks
returns-clause-marks c =
    let s1 = c.open_alternative.new.asm in
    OnOk-then c.jump.result
    (λ e l h. subst (λ z. is_placed z.items l ≡ false) (sym e) (fresh-jump s1.items c.start.result l (c.in_ok-open_alternative.ensures.placed l ∙ h)))
    c.jump.ensures.ok

pub returns-clause-short : goal.returns-clause-short
returns-clause-short c =
    let s1 = c.open_alternative.new.asm in
    OnOk-then c.jump.result (λ e. omega (arith, ap (λ z. total z.items) e, total-jump s1.items c.start.result, c.in_ok-open_alternative.ensures.short)) c.jump.ensures.ok
