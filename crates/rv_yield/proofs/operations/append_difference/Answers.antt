-- Where an instruction isn't emitted, the assembler holds those before it.
use Rattle.std.proofs.Common.{[], ◌∷◌, pos, rules}
use Rattle.rv_code.specs.declared.instruction.Inst.TheVariants.{Op, OpImm}
use Rattle.rv_code.specs.declared.instruction.OpOp.TheVariants.{Sub, Slt}
use Rattle.rv_code.specs.declared.instruction.OpImmOp.TheVariants.{Slti}
use Rattle.rv_code.specs.declared.instruction.BranchOp.TheVariants.{Bne}
use Rattle.rv_asm.specs.declared.item.Item.TheVariants.{BranchTo}
use Rattle.rv_yield.proofs.Fronts.{front-same}
use Rattle.rv_yield.proofs.operations.append_difference.Goals as goal

pub returns-in_err-append_all-clause-err : goal.returns-in_err-append_all-clause-err
returns-in_err-append_all-clause-err c =
    let front = front-same (c.on_registers.result ∷ c.on_registers-2.result ∷ c.is_negative.result ∷ []) (Op Slt 28 c.args.a c.args.b ∷ Op Sub c.args.to c.args.a c.args.b ∷ OpImm Slti 29 c.args.to (pos 0) ∷ []) (BranchTo Bne 28 29 c.args.nothing ∷ []) c.args.asm.now c.append_all.new.asm (search rules) c.in_err-append_all.ensures.err in
    search rules
