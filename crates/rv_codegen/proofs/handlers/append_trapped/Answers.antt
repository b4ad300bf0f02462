use Rattle.std.proofs.Common.{[], ◌∷◌, ◌++◌, map, ap, ◌∙◌, arith}
use Rattle.std.specs.Prelude.{slice_index}
use Rattle.rv_asm.specs.Assembly.{is_placed}
use Rattle.rv_asm.specs.declared.item.Item.TheVariants.{Jump, Mark, Plain}
use Rattle.rv_prelude.specs.Pieces.{close_trap, open_trap_items}
use Rattle.rv_codegen.specs.Blocks.{joint_of, start_of, stop_of}
use Rattle.rv_codegen.proofs.Emitting.{OnOk-then, both-appended, mark-keeps, mark-short}
use Rattle.rv_codegen.proofs.handlers.append_trapped.Goals as goal

pub place-requires-clause-once : goal.place-requires-clause-once
place-requires-clause-once c =
    c.in_ok-append_first_part.ensures.marks c.stop.result (ap (is_placed c.args.asm.now.items) c.stop.ensures ∙ c.requires.stop)

pub returns-clause-items : goal.returns-clause-items
returns-clause-items c =
    let asm = c.args.asm.now in
    let s1 = c.append_first_part.new.asm in
    let s2 = c.place.new.self in
    let keep = slice_index c.args.plan.keeps.now c.args.k in
    let first = open_trap_items keep (joint_of c.args.k) ++ (Jump (start_of c.args.left) ∷ []) in
    let closes = map Plain (close_trap keep) in
    OnOk-then c.close_trap.result
    (λ e.
    let last = both-appended s1 s2 c.close_trap.new.asm (Mark c.stop.result ∷ []) (map Plain (close_trap c.keep_at.result)) closes c.place.ensures e (ap (λ q. map Plain (close_trap q)) c.keep_at.ensures.is) in
    both-appended asm s1 c.close_trap.new.asm first (Mark c.stop.result ∷ closes) (Mark (stop_of c.args.k) ∷ closes) c.in_ok-append_first_part.ensures.items last (ap (λ m. Mark m ∷ closes) c.stop.ensures))
    c.close_trap.ensures.ok

pub returns-clause-marks : goal.returns-clause-marks
returns-clause-marks c =
    OnOk-then c.close_trap.result
    (λ same l ne h. same l ∙ mark-keeps c.append_first_part.new.asm c.place.new.self c.stop.result l c.place.ensures (λ e. ne (cc)) (c.in_ok-append_first_part.ensures.marks l h))
    c.close_trap.ensures.placed

pub returns-clause-short : goal.returns-clause-short
returns-clause-short c =
    OnOk-then c.close_trap.result
    (λ m. omega (arith, m, mark-short c.append_first_part.new.asm c.place.new.self c.stop.result c.place.ensures, c.in_ok-append_first_part.ensures.short))
    c.close_trap.ensures.short
