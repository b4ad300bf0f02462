-- Where an instruction isn't emitted, the assembler holds those before it.
use Rattle.std.proofs.Common.{[], ◌∷◌, rules}
use Rattle.rv_code.specs.declared.instruction.Inst.TheVariants.{Op, Shift}
use Rattle.rv_code.specs.declared.instruction.OpOp.TheVariants.{Mul, Mulh}
use Rattle.rv_code.specs.declared.instruction.ShiftOp.TheVariants.{Srai}
use Rattle.rv_code.specs.declared.instruction.BranchOp.TheVariants.{Bne}
use Rattle.rv_asm.specs.declared.item.Item.TheVariants.{BranchTo}
use Rattle.rv_yield.proofs.Fronts.{front-same}
use Rattle.rv_yield.proofs.operations.append_product.Goals as goal

pub returns-in_err-append_all-clause-err : goal.returns-in_err-append_all-clause-err
returns-in_err-append_all-clause-err c =
    let front = front-same (c.on_registers.result ∷ c.on_registers-2.result ∷ Shift Srai 28 c.args.to 63 ∷ []) (Op Mulh 29 c.args.a c.args.b ∷ Op Mul c.args.to c.args.a c.args.b ∷ Shift Srai 28 c.args.to 63 ∷ []) (BranchTo Bne 28 29 c.args.nothing ∷ []) c.args.asm.now c.append_all.new.asm (search rules) c.in_err-append_all.ensures.err in
    search rules
