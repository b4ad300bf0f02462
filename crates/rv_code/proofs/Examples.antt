-- The table and the machine at a few words.
use Rattle.std.proofs.Common.{◌≡◌, ℕ, ◌-◌, ◌^◌, List, [], ◌∷◌, Some, None, pos, negsuc, refl}
use Rattle.rv_code.specs.Table.{decode, row, table}
use Rattle.rv_code.specs.Encode.{encode}
use Rattle.rv_code.specs.Bytes.{number_of}
use Rattle.rv_code.specs.Arithmetic.{operation}
use Rattle.rv_code.specs.Machine.{Segment, Exited, Trapped, run, step, loaded}
use Rattle.rv_code.specs.declared.cause.Cause.TheVariants.{Undefined}
use Rattle.rv_code.specs.declared.instruction.Inst.TheVariants.{Op, OpImm, Jal, Branch}
use Rattle.rv_code.specs.declared.instruction.OpOp.TheVariants.{Mul, Div, Mulh}
use Rattle.rv_code.specs.declared.instruction.OpImmOp.TheVariants.{Addi}
use Rattle.rv_code.specs.declared.instruction.BranchOp.TheVariants.{Bltu}

addi-word : encode (OpImm Addi 10 0 (pos 42)) ≡ Some 0x02a00513
addi-word = refl

addi-off : encode (OpImm Addi 10 0 (pos 2048)) ≡ None
addi-off = refl

addi-read : decode 0x02a00513 ≡ Some (OpImm Addi 10 0 (pos 42))
unfolding decode row table
addi-read = refl

mul-read : decode 0x02c58533 ≡ Some (Op Mul 10 11 12)
unfolding decode row table
mul-read = refl

no-mul : decode 0x04c58533 ≡ None
unfolding decode row table
no-mul = refl

branch-read : decode 0x212be763 ≡ Some (Branch Bltu 23 18 (pos 526))
unfolding decode row table
branch-read = refl

jal-read : decode 0xad08c6ef ≡ Some (Jal 13 (negsuc 474415))
unfolding decode row table
jal-read = refl

least-by-minus-one : operation Div (2 ^ 63) (2 ^ 64 - 1) ≡ 2 ^ 63
least-by-minus-one = refl

high-product : operation Mulh (2 ^ 64 - 1) 2 ≡ 2 ^ 64 - 1
high-product = refl

image : List ℕ → List Segment
image bytes = record { address = 65536; flags = 5; bytes = bytes } ∷ []

exits-7 : run 3 (loaded 65536 (image (0x93 ∷ 0x08 ∷ 0xd0 ∷ 0x05 ∷ 0x13 ∷ 0x05 ∷ 0x70 ∷ 0x00 ∷ 0x73 ∷ 0x00 ∷ 0x00 ∷ 0x00 ∷ [])) []) ≡ Exited 7 []
unfolding image run step decode row table number_of
exits-7 = refl

undefined : run 9 (loaded 65536 (image (0 ∷ 0 ∷ 0 ∷ 0 ∷ [])) []) ≡ Trapped Undefined
unfolding image run step decode row table number_of
undefined = refl
