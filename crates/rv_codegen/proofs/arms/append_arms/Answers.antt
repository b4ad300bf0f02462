use Rattle.std.proofs.Common.{[], ◌∷◌, ◌++◌, map, ap, ◌∙◌, arith}
use Rattle.std.specs.Prelude.{slice_index}
use Rattle.rv_asm.specs.Assembly.{is_placed}
use Rattle.rv_asm.specs.declared.item.Item.TheVariants.{Jump, Mark, Plain}
use Rattle.rv_prelude.specs.Pieces.{close_alternative, open_alternative_items}
use Rattle.rv_codegen.specs.Blocks.{front_of, start_of, stop_of}
use Rattle.rv_codegen.proofs.Emitting.{OnOk-then, both-appended, mark-keeps, mark-short}
use Rattle.rv_codegen.proofs.arms.append_arms.Goals as goal

pub place-requires-clause-once : goal.place-requires-clause-once
place-requires-clause-once c =
    c.in_ok-append_first_arm.ensures.marks c.stop.result (ap (is_placed c.args.asm.now.items) c.stop.ensures ∙ c.requires.stop)

pub returns-clause-items : goal.returns-clause-items
returns-clause-items c =
    let asm = c.args.asm.now in
    let s1 = c.append_first_arm.new.asm in
    let s2 = c.place.new.self in
    let keep = slice_index c.args.plan.keeps.now c.args.k in
    let first = open_alternative_items keep (front_of c.args.right) ++ (Jump (start_of c.args.left) ∷ []) in
    let closes = map Plain (close_alternative keep) in
    OnOk-then c.close_alternative.result
    (λ e.
    let last = both-appended s1 s2 c.close_alternative.new.asm (Mark c.stop.result ∷ []) (map Plain (close_alternative c.keep_at.result)) closes c.place.ensures e (ap (λ q. map Plain (close_alternative q)) c.keep_at.ensures.is) in
    both-appended asm s1 c.close_alternative.new.asm first (Mark c.stop.result ∷ closes) (Mark (stop_of c.args.k) ∷ closes) c.in_ok-append_first_arm.ensures.items last (ap (λ m. Mark m ∷ closes) c.stop.ensures))
    c.close_alternative.ensures.ok

pub returns-clause-marks : goal.returns-clause-marks
returns-clause-marks c =
    OnOk-then c.close_alternative.result
    (λ same l ne nj h. same l ∙ mark-keeps c.append_first_arm.new.asm c.place.new.self c.stop.result l c.place.ensures (λ e. ne (cc)) (c.in_ok-append_first_arm.ensures.marks l h))
    c.close_alternative.ensures.placed

pub returns-clause-short : goal.returns-clause-short
returns-clause-short c =
    OnOk-then c.close_alternative.result
    (λ m. omega (arith, m, mark-short c.append_first_arm.new.asm c.place.new.self c.stop.result c.place.ensures, c.in_ok-append_first_arm.ensures.short))
    c.close_alternative.ensures.short
