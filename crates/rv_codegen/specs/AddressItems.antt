-- The code that puts the address of a word of the frame into a register.
use Rattle.std.specs.Prelude.{ℕ, ◌*◌, nat_lt, if◌then◌else◌, List, [], ◌∷◌, ◌++◌, pos}
use Rattle.rv_code.specs.declared.instruction.Inst.{Inst}
use Rattle.rv_code.specs.declared.instruction.Inst.TheVariants.{Op, OpImm}
use Rattle.rv_code.specs.declared.instruction.OpOp.TheVariants.{Add}
use Rattle.rv_code.specs.declared.instruction.OpImmOp.TheVariants.{Addi}
use Rattle.rv_asm.specs.Conventions.{frame_register}
use Rattle.rv_asm.specs.Pieces.{load_constant}
use Rattle.rv_yield.specs.Registers.{first_register}

-- the address of the word at an offset of the frame goes to register 10
abbrev pub address_items : (offset : ℕ) → List Inst
address_items offset =
    if nat_lt offset 256 then OpImm Addi first_register frame_register (pos (8 * offset)) ∷ []
    else load_constant first_register (8 * offset) ++ Op Add first_register first_register frame_register ∷ []
