use Rattle.std.proofs.Common.{◌≡◌, [], ◌∷◌, ◌++◌, false, ap, sym, subst, ◌∙◌, arith}
use Rattle.std.specs.Prelude.{slice_index}
use Rattle.rv_asm.specs.Assembly.{is_placed, total}
use Rattle.rv_asm.specs.declared.item.Item.TheVariants.{Jump}
use Rattle.rv_prelude.specs.Pieces.{open_trap_items}
use Rattle.rv_codegen.specs.Blocks.{joint_of, start_of}
use Rattle.rv_codegen.proofs.Emitting.{OnOk-then, both-appended}
use Rattle.rv_codegen.proofs.Fresh.{fresh-jump, total-jump}
use Rattle.rv_codegen.proofs.handlers.append_first_part.Goals as goal

pub returns-clause-items : goal.returns-clause-items
returns-clause-items c =
    let asm = c.args.asm.now in
    let s1 = c.open_trap.new.asm in
    let keep = slice_index c.args.plan.keeps.now c.args.k in
    let first : s1 ≡ record asm { items = asm.items ++ open_trap_items keep (joint_of c.args.k) } =
    c.in_ok-open_trap.ensures.ok
    ∙ ap (λ q. record asm { items = asm.items ++ open_trap_items q c.joint.result }) c.keep_at.ensures.is
    ∙ ap (λ q. record asm { items = asm.items ++ open_trap_items keep q }) c.joint.ensures in
    OnOk-then c.jump.result
    (λ e. both-appended asm s1 c.jump.new.self (open_trap_items keep (joint_of c.args.k)) (Jump c.start.result ∷ []) (Jump (start_of c.args.left) ∷ []) first e (ap (λ l. Jump l ∷ []) c.start.ensures))
    c.jump.ensures.ok

pub returns-clause-marks : goal.returns-clause-marks
returns-clause-marks c =
    let s1 = c.open_trap.new.asm in
    OnOk-then c.jump.result
    (λ e l h. subst (λ z. is_placed z.items l ≡ false) (sym e) (fresh-jump s1.items c.start.result l (c.in_ok-open_trap.ensures.placed l ∙ h)))
    c.jump.ensures.ok

pub returns-clause-short : goal.returns-clause-short
returns-clause-short c =
    let s1 = c.open_trap.new.asm in
    OnOk-then c.jump.result (λ e. omega (arith, ap (λ z. total z.items) e, total-jump s1.items c.start.result, c.in_ok-open_trap.ensures.short)) c.jump.ensures.ok
