-- Where the call isn't emitted, the assembler holds the instructions before it.
use Rattle.std.proofs.Common.{◌≡◌, [], ◌∷◌, pos, OnOk, rules, arith}
use Rattle.std.proofs.lemmas.Grind.{common_steps}
use Rattle.std.proofs.lemmas.Result.{on_err_weaker}
use Rattle.rv_code.specs.declared.instruction.Inst.TheVariants.{OpImm, Ecall}
use Rattle.rv_code.specs.declared.instruction.OpImmOp.TheVariants.{Addi}
use Rattle.rv_asm.specs.Pieces.{appended, exit_with}
use Rattle.rv_asm.proofs.PieceLeads.{exits-ok}
use Rattle.rv_asm.proofs.Fronts.{front-none, front-one}
use Rattle.rv_asm.proofs.pieces.exit_with.Goals as goal

pub returns-clause-err : goal.returns-clause-err
returns-clause-err c =
    let first : c.add.new.asm ≡ appended c.args.asm.now (OpImm Addi 10 0 (pos c.args.code) ∷ []) = search rules in
    let second : c.add-2.new.asm ≡ appended c.add.new.asm (OpImm Addi 17 0 (pos 93) ∷ []) = search rules in
    on_err_weaker c.emit.result (λ same. front-one _ _ _ _ _ first (front-one _ _ _ _ _ second (front-none (Ecall ∷ []) _ _ same))) c.emit.ensures.err

pub returns-clause-exits : goal.returns-clause-exits
returns-clause-exits c =
    let ok : OnOk c.emit.result (c.emit.new.self ≡ appended c.args.asm.now (exit_with c.args.code)) = first_of (search rules, grind (arith, common_steps)) in
    exits-ok c.emit.result c.args.asm.now c.emit.new.self c.args.code (omega arith) ok
