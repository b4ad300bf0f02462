-- Where an instruction isn't emitted, the assembler holds those before it.
use Rattle.std.proofs.Common.{◌≡◌, ℕ, ◌*◌, [], ◌∷◌, pos, OnOk, rules, arith}
use Rattle.std.proofs.lemmas.Grind.{common_steps}
use Rattle.std.proofs.lemmas.Result.{on_err_weaker}
use Rattle.rv_code.specs.declared.instruction.Inst.TheVariants.{OpImm, Store, Ecall}
use Rattle.rv_code.specs.declared.instruction.StoreOp.TheVariants.{Sd}
use Rattle.rv_code.specs.declared.instruction.OpImmOp.TheVariants.{Addi}
use Rattle.rv_asm.specs.Assembly.{Listing}
use Rattle.rv_asm.specs.Pieces.{appended, AppendsFrontOf, send_word}
use Rattle.rv_asm.proofs.PieceLeads.{sends-ok}
use Rattle.rv_asm.proofs.Fronts.{front-none, front-one}
use Rattle.rv_asm.proofs.pieces.send_word.Goals as goal

-- behind the word, its address and its size
behind_three :
    (register place : ℕ) (old l1 l2 l3 new : Listing) →
    l1 ≡ appended old (Store Sd 3 register (pos (8 * place)) ∷ []) →
    l2 ≡ appended l1 (OpImm Addi 11 3 (pos (8 * place)) ∷ []) →
    l3 ≡ appended l2 (OpImm Addi 12 0 (pos 8) ∷ []) →
    AppendsFrontOf (OpImm Addi 17 0 (pos 64) ∷ OpImm Addi 10 0 (pos 1) ∷ Ecall ∷ []) l3 new →
    AppendsFrontOf (send_word register place) old new
behind_three register place old l1 l2 l3 new first second third front =
    front-one _ _ _ _ _ first (front-one _ _ _ _ _ second (front-one _ _ _ _ _ third front))

pub returns-in_err-add-2-clause-err : goal.returns-in_err-add-2-clause-err
returns-in_err-add-2-clause-err c =
    let first : c.emit.new.self ≡ appended c.args.asm.now (Store Sd 3 c.args.register (pos (8 * c.args.place)) ∷ []) = search rules in
    let second : c.add.new.asm ≡ appended c.emit.new.self (OpImm Addi 11 3 (pos (8 * c.args.place)) ∷ []) = search rules in
    let front : AppendsFrontOf (send_word c.args.register c.args.place) c.args.asm.now c.add-2.new.asm =
    front-one _ _ _ _ _ first (front-one _ _ _ _ _ second (front-none _ _ _ c.in_err-add-2.ensures.err)) in
    search rules

pub returns-in_err-add-3-clause-err : goal.returns-in_err-add-3-clause-err
returns-in_err-add-3-clause-err c =
    let front =
    behind_three c.args.register c.args.place c.args.asm.now c.emit.new.self c.add.new.asm c.add-2.new.asm c.add-3.new.asm
    (search rules) (search rules) (search rules) (front-none _ _ _ c.in_err-add-3.ensures.err) in
    search rules

pub returns-in_err-add-4-clause-err : goal.returns-in_err-add-4-clause-err
returns-in_err-add-4-clause-err c =
    let fourth : c.add-3.new.asm ≡ appended c.add-2.new.asm (OpImm Addi 17 0 (pos 64) ∷ []) = search rules in
    let front =
    behind_three c.args.register c.args.place c.args.asm.now c.emit.new.self c.add.new.asm c.add-2.new.asm c.add-4.new.asm
    (search rules) (search rules) (search rules) (front-one _ _ _ _ _ fourth (front-none _ _ _ c.in_err-add-4.ensures.err)) in
    search rules

pub returns-clause-err : goal.returns-clause-err
returns-clause-err c =
    let fourth : c.add-3.new.asm ≡ appended c.add-2.new.asm (OpImm Addi 17 0 (pos 64) ∷ []) = search rules in
    let fifth : c.add-4.new.asm ≡ appended c.add-3.new.asm (OpImm Addi 10 0 (pos 1) ∷ []) = search rules in
    on_err_weaker c.emit-2.result
    (λ same.
    behind_three c.args.register c.args.place c.args.asm.now c.emit.new.self c.add.new.asm c.add-2.new.asm c.emit-2.new.self
    (search rules) (search rules) (search rules) (front-one _ _ _ _ _ fourth (front-one _ _ _ _ _ fifth (front-none _ _ _ same))))
    c.emit-2.ensures.err

pub returns-clause-sends : goal.returns-clause-sends
returns-clause-sends c =
    let ok : OnOk c.emit-2.result (c.emit-2.new.self ≡ appended c.args.asm.now (send_word c.args.register c.args.place)) = first_of (search rules, grind (arith, common_steps)) in
    sends-ok c.emit-2.result c.args.asm.now c.emit-2.new.self c.args.register c.args.place ok
