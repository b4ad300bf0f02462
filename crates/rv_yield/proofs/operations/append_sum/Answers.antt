-- Where an instruction isn't emitted, the assembler holds those before it.
use Rattle.std.proofs.Common.{[], ◌∷◌, pos, rules}
use Rattle.rv_code.specs.declared.instruction.Inst.TheVariants.{Op, OpImm}
use Rattle.rv_code.specs.declared.instruction.OpOp.TheVariants.{Add, Slt}
use Rattle.rv_code.specs.declared.instruction.OpImmOp.TheVariants.{Slti}
use Rattle.rv_code.specs.declared.instruction.BranchOp.TheVariants.{Bne}
use Rattle.rv_asm.specs.declared.item.Item.TheVariants.{BranchTo}
use Rattle.rv_yield.proofs.Fronts.{front-same}
use Rattle.rv_yield.proofs.operations.append_sum.Goals as goal

pub returns-in_err-append_all-clause-err : goal.returns-in_err-append_all-clause-err
returns-in_err-append_all-clause-err c =
    let front = front-same (c.is_negative.result ∷ c.on_registers.result ∷ c.on_registers-2.result ∷ []) (OpImm Slti 28 c.args.a (pos 0) ∷ Op Add c.args.to c.args.a c.args.b ∷ Op Slt 29 c.args.to c.args.b ∷ []) (BranchTo Bne 28 29 c.args.nothing ∷ []) c.args.asm.now c.append_all.new.asm (search rules) c.in_err-append_all.ensures.err in
    search rules
