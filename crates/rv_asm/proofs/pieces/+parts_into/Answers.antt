-- The parts above the last are one fewer, and the last stands behind them.
use Rattle.std.proofs.Common.{◌≡◌, rules, ◌<◌, [], ◌∷◌, to_z, of_z, w32, ap, ◌∙◌, arith}
use Rattle.std.proofs.lemmas.Int.{ints}
use Rattle.std.proofs.lemmas.Result.{on_ok_weaker, on_err_weaker}
use Rattle.rv_code.specs.declared.instruction.Inst.TheVariants.{OpImm, Shift}
use Rattle.rv_code.specs.declared.instruction.OpImmOp.TheVariants.{Addi}
use Rattle.rv_code.specs.declared.instruction.ShiftOp.TheVariants.{Slli}
use Rattle.rv_asm.specs.Pieces.{appended, low_part}
use Rattle.rv_asm.proofs.Appended.{high_part-below, appended-load_parts}
use Rattle.rv_asm.proofs.Fronts.{front-none, front-first, front-second, front-one, front-load_parts}
use Rattle.rv_asm.proofs.pieces.+parts_into.Goals as goal

pub parts_into-requires : goal.parts_into-requires
parts_into-requires t c =
    let some : 0 < c.args.parts = omega (arith, c.if-parts-eq0.false) in
    let below = high_part-below c.args.parts c.args.value some c.requires.below in
    (search rules, (omega arith, (below, omega arith)))

pub returns-in_err-parts_into-clause-err : goal.returns-in_err-parts_into-clause-err
returns-in_err-parts_into-clause-err t c =
    let some : 0 < c.args.parts = omega (arith, c.if-parts-eq0.false) in
    let front = front-load_parts c.args.parts c.args.rd c.args.value c.args.asm.now c.parts_into.new.asm some (front-first _ _ _ _ c.in_err-parts_into.ensures.err) in
    search rules

pub returns-in_err-emit-2-clause-err : goal.returns-in_err-emit-2-clause-err
returns-in_err-emit-2-clause-err t c =
    let some : 0 < c.args.parts = omega (arith, c.if-parts-eq0.false) in
    let front =
    front-load_parts c.args.parts c.args.rd c.args.value c.args.asm.now c.emit-2.new.self some
    (front-second _ _ _ _ _ c.in_ok-parts_into.ensures.ok (front-none _ _ _ c.in_err-emit-2.ensures.err)) in
    search rules

pub returns-clause-ok : goal.returns-clause-ok
returns-clause-ok t c =
    let some : 0 < c.args.parts = omega (arith, c.if-parts-eq0.false) in
    let shift : c.emit-2.new.self ≡ appended c.parts_into.new.asm (Shift Slli c.args.rd c.args.rd 12 ∷ []) = search rules in
    let low : to_z w32 (of_z w32 c.low_part_of-2.result) ≡ low_part c.args.value = grind (arith, ints, c.low_part_of-2.ensures.is) in
    on_ok_weaker c.add-2.result
    (λ last.
    let add : c.add-2.new.asm ≡ appended c.emit-2.new.self (OpImm Addi c.args.rd c.args.rd (low_part c.args.value) ∷ []) =
    last ∙ ap (λ z. appended c.emit-2.new.self (OpImm Addi c.args.rd c.args.rd z ∷ [])) low in
    appended-load_parts c.args.parts c.args.rd c.args.value c.args.asm.now c.parts_into.new.asm c.emit-2.new.self c.add-2.new.asm some
    c.in_ok-parts_into.ensures.ok shift add)
    c.add-2.ensures.ok

pub returns-clause-err : goal.returns-clause-err
returns-clause-err t c =
    let some : 0 < c.args.parts = omega (arith, c.if-parts-eq0.false) in
    let shift : c.emit-2.new.self ≡ appended c.parts_into.new.asm (Shift Slli c.args.rd c.args.rd 12 ∷ []) = search rules in
    on_err_weaker c.add-2.result
    (λ same.
    front-load_parts c.args.parts c.args.rd c.args.value c.args.asm.now c.add-2.new.asm some
    (front-second _ _ _ _ _ c.in_ok-parts_into.ensures.ok (front-one _ _ _ _ _ shift (front-none _ _ _ same))))
    c.add-2.ensures.err
