-- The code that copies what an escape has left to where the handler of a trap finds its data.
use Rattle.std.specs.Prelude.{ℕ, ◌+◌, ◌*◌, nat_lt, if◌then◌else◌, List, ◌∷◌, ◌++◌, length, slice_index}
use Rattle.rv_code.specs.declared.instruction.Inst.{Inst}
use Rattle.rv_code.specs.declared.instruction.Inst.TheVariants.{Op}
use Rattle.rv_code.specs.declared.instruction.OpOp.TheVariants.{Add}
use Rattle.rv_asm.specs.Conventions.{frame_register}
use Rattle.rv_asm.specs.Pieces.{copy_words, load_constant}
use Rattle.rv_yield.specs.Registers.{first_register}

-- the words in a row from the address in register 10 on go to these words of the frame, which are in a row too, the first one first
abbrev pub caught_items : List ℕ → List Inst
caught_items os =
    if nat_lt (slice_index os 0 + length os) 257 then copy_words (length os) 11 first_register 0 frame_register (slice_index os 0)
    else load_constant 5 (8 * slice_index os 0)
    ++ (Op Add 5 5 frame_register ∷ copy_words (length os) 11 first_register 0 5 0)
