-- The numbers of each instruction fit their fields, and its row stands in the table.
use Rattle.std.proofs.Common.{◌≡◌, ℕ, ◌<◌, Some, refl, lit<}
use Rattle.std.specs.Prelude.{slice_get}
use Rattle.rv_code.specs.declared.instruction.Inst.TheVariants.{Ecall, Ebreak}
use Rattle.rv_code.specs.declared.instruction.OpOp.{OpOp}
use Rattle.rv_code.specs.declared.instruction.OpOp.TheVariants.{Add, Sub, Sll, Slt, Sltu, Xor, Srl, Sra, Or, And, Addw, Subw, Sllw, Srlw, Sraw, Mul, Mulh, Mulhsu, Mulhu, Div, Divu, Rem, Remu, Mulw, Divw, Divuw, Remw, Remuw}
use Rattle.rv_code.specs.declared.instruction.OpImmOp.{OpImmOp}
use Rattle.rv_code.specs.declared.instruction.OpImmOp.TheVariants.{Addi, Slti, Sltiu, Xori, Ori, Andi, Addiw}
use Rattle.rv_code.specs.declared.instruction.ShiftOp.{ShiftOp}
use Rattle.rv_code.specs.declared.instruction.ShiftOp.TheVariants.{Slli, Srli, Srai, Slliw, Srliw, Sraiw}
use Rattle.rv_code.specs.declared.instruction.LoadOp.{LoadOp}
use Rattle.rv_code.specs.declared.instruction.LoadOp.TheVariants.{Lb, Lh, Lw, Ld, Lbu, Lhu, Lwu}
use Rattle.rv_code.specs.declared.instruction.StoreOp.{StoreOp}
use Rattle.rv_code.specs.declared.instruction.StoreOp.TheVariants.{Sb, Sh, Sw, Sd}
use Rattle.rv_code.specs.declared.instruction.BranchOp.{BranchOp}
use Rattle.rv_code.specs.declared.instruction.BranchOp.TheVariants.{Beq, Bne, Blt, Bge, Bltu, Bgeu}
use Rattle.rv_code.specs.declared.instruction.UpperOp.{UpperOp}
use Rattle.rv_code.specs.declared.instruction.UpperOp.TheVariants.{Lui, Auipc}
use Rattle.rv_code.specs.Table.{Row, Code, FullCode, op_code, op_imm_code, shift_code, load_code, store_code, branch_code, upper_opcode, op_row, op_imm_row, shift_row, load_row, store_row, branch_row, upper_row, jal_row, jalr_row, fence_row, word_row, ecall_word, ebreak_word, table}

-- the row stands in the table
pub record IsRow (r : Row) : Type 0 where
  pub place : ℕ
  pub is_there : slice_get table place ≡ Some r

pub record FitsCode (c : Code) : Type 0 where
  pub funct3 : c.funct3 < 8
  pub opcode : c.opcode < 128

pub record FitsFullCode (c : FullCode) : Type 0 where
  pub upper : c.upper < 128
  pub funct3 : c.funct3 < 8
  pub opcode : c.opcode < 128

pub op_row-there : (op : OpOp) → IsRow (op_row op)
unfolding table
op_row-there Add = record { place = 32; is_there = refl }
op_row-there Sub = record { place = 33; is_there = refl }
op_row-there Sll = record { place = 34; is_there = refl }
op_row-there Slt = record { place = 35; is_there = refl }
op_row-there Sltu = record { place = 36; is_there = refl }
op_row-there Xor = record { place = 37; is_there = refl }
op_row-there Srl = record { place = 38; is_there = refl }
op_row-there Sra = record { place = 39; is_there = refl }
op_row-there Or = record { place = 40; is_there = refl }
op_row-there And = record { place = 41; is_there = refl }
op_row-there Addw = record { place = 42; is_there = refl }
op_row-there Subw = record { place = 43; is_there = refl }
op_row-there Sllw = record { place = 44; is_there = refl }
op_row-there Srlw = record { place = 45; is_there = refl }
op_row-there Sraw = record { place = 46; is_there = refl }
op_row-there Mul = record { place = 47; is_there = refl }
op_row-there Mulh = record { place = 48; is_there = refl }
op_row-there Mulhsu = record { place = 49; is_there = refl }
op_row-there Mulhu = record { place = 50; is_there = refl }
op_row-there Div = record { place = 51; is_there = refl }
op_row-there Divu = record { place = 52; is_there = refl }
op_row-there Rem = record { place = 53; is_there = refl }
op_row-there Remu = record { place = 54; is_there = refl }
op_row-there Mulw = record { place = 55; is_there = refl }
op_row-there Divw = record { place = 56; is_there = refl }
op_row-there Divuw = record { place = 57; is_there = refl }
op_row-there Remw = record { place = 58; is_there = refl }
op_row-there Remuw = record { place = 59; is_there = refl }

pub op_code-fits : (op : OpOp) → FitsFullCode (op_code op)
op_code-fits Add = record { upper = lit< tt; funct3 = lit< tt; opcode = lit< tt }
op_code-fits Sub = record { upper = lit< tt; funct3 = lit< tt; opcode = lit< tt }
op_code-fits Sll = record { upper = lit< tt; funct3 = lit< tt; opcode = lit< tt }
op_code-fits Slt = record { upper = lit< tt; funct3 = lit< tt; opcode = lit< tt }
op_code-fits Sltu = record { upper = lit< tt; funct3 = lit< tt; opcode = lit< tt }
op_code-fits Xor = record { upper = lit< tt; funct3 = lit< tt; opcode = lit< tt }
op_code-fits Srl = record { upper = lit< tt; funct3 = lit< tt; opcode = lit< tt }
op_code-fits Sra = record { upper = lit< tt; funct3 = lit< tt; opcode = lit< tt }
op_code-fits Or = record { upper = lit< tt; funct3 = lit< tt; opcode = lit< tt }
op_code-fits And = record { upper = lit< tt; funct3 = lit< tt; opcode = lit< tt }
op_code-fits Addw = record { upper = lit< tt; funct3 = lit< tt; opcode = lit< tt }
op_code-fits Subw = record { upper = lit< tt; funct3 = lit< tt; opcode = lit< tt }
op_code-fits Sllw = record { upper = lit< tt; funct3 = lit< tt; opcode = lit< tt }
op_code-fits Srlw = record { upper = lit< tt; funct3 = lit< tt; opcode = lit< tt }
op_code-fits Sraw = record { upper = lit< tt; funct3 = lit< tt; opcode = lit< tt }
op_code-fits Mul = record { upper = lit< tt; funct3 = lit< tt; opcode = lit< tt }
op_code-fits Mulh = record { upper = lit< tt; funct3 = lit< tt; opcode = lit< tt }
op_code-fits Mulhsu = record { upper = lit< tt; funct3 = lit< tt; opcode = lit< tt }
op_code-fits Mulhu = record { upper = lit< tt; funct3 = lit< tt; opcode = lit< tt }
op_code-fits Div = record { upper = lit< tt; funct3 = lit< tt; opcode = lit< tt }
op_code-fits Divu = record { upper = lit< tt; funct3 = lit< tt; opcode = lit< tt }
op_code-fits Rem = record { upper = lit< tt; funct3 = lit< tt; opcode = lit< tt }
op_code-fits Remu = record { upper = lit< tt; funct3 = lit< tt; opcode = lit< tt }
op_code-fits Mulw = record { upper = lit< tt; funct3 = lit< tt; opcode = lit< tt }
op_code-fits Divw = record { upper = lit< tt; funct3 = lit< tt; opcode = lit< tt }
op_code-fits Divuw = record { upper = lit< tt; funct3 = lit< tt; opcode = lit< tt }
op_code-fits Remw = record { upper = lit< tt; funct3 = lit< tt; opcode = lit< tt }
op_code-fits Remuw = record { upper = lit< tt; funct3 = lit< tt; opcode = lit< tt }

pub op_imm_row-there : (op : OpImmOp) → IsRow (op_imm_row op)
unfolding table
op_imm_row-there Addi = record { place = 19; is_there = refl }
op_imm_row-there Slti = record { place = 20; is_there = refl }
op_imm_row-there Sltiu = record { place = 21; is_there = refl }
op_imm_row-there Xori = record { place = 22; is_there = refl }
op_imm_row-there Ori = record { place = 23; is_there = refl }
op_imm_row-there Andi = record { place = 24; is_there = refl }
op_imm_row-there Addiw = record { place = 25; is_there = refl }

pub op_imm_code-fits : (op : OpImmOp) → FitsCode (op_imm_code op)
op_imm_code-fits Addi = record { funct3 = lit< tt; opcode = lit< tt }
op_imm_code-fits Slti = record { funct3 = lit< tt; opcode = lit< tt }
op_imm_code-fits Sltiu = record { funct3 = lit< tt; opcode = lit< tt }
op_imm_code-fits Xori = record { funct3 = lit< tt; opcode = lit< tt }
op_imm_code-fits Ori = record { funct3 = lit< tt; opcode = lit< tt }
op_imm_code-fits Andi = record { funct3 = lit< tt; opcode = lit< tt }
op_imm_code-fits Addiw = record { funct3 = lit< tt; opcode = lit< tt }

pub shift_row-there : (op : ShiftOp) → IsRow (shift_row op)
unfolding table
shift_row-there Slli = record { place = 26; is_there = refl }
shift_row-there Srli = record { place = 27; is_there = refl }
shift_row-there Srai = record { place = 28; is_there = refl }
shift_row-there Slliw = record { place = 29; is_there = refl }
shift_row-there Srliw = record { place = 30; is_there = refl }
shift_row-there Sraiw = record { place = 31; is_there = refl }

pub shift_code-fits : (op : ShiftOp) → FitsFullCode (shift_code op)
shift_code-fits Slli = record { upper = lit< tt; funct3 = lit< tt; opcode = lit< tt }
shift_code-fits Srli = record { upper = lit< tt; funct3 = lit< tt; opcode = lit< tt }
shift_code-fits Srai = record { upper = lit< tt; funct3 = lit< tt; opcode = lit< tt }
shift_code-fits Slliw = record { upper = lit< tt; funct3 = lit< tt; opcode = lit< tt }
shift_code-fits Srliw = record { upper = lit< tt; funct3 = lit< tt; opcode = lit< tt }
shift_code-fits Sraiw = record { upper = lit< tt; funct3 = lit< tt; opcode = lit< tt }

pub load_row-there : (op : LoadOp) → IsRow (load_row op)
unfolding table
load_row-there Lb = record { place = 8; is_there = refl }
load_row-there Lh = record { place = 9; is_there = refl }
load_row-there Lw = record { place = 10; is_there = refl }
load_row-there Ld = record { place = 11; is_there = refl }
load_row-there Lbu = record { place = 12; is_there = refl }
load_row-there Lhu = record { place = 13; is_there = refl }
load_row-there Lwu = record { place = 14; is_there = refl }

pub load_code-fits : (op : LoadOp) → FitsCode (load_code op)
load_code-fits Lb = record { funct3 = lit< tt; opcode = lit< tt }
load_code-fits Lh = record { funct3 = lit< tt; opcode = lit< tt }
load_code-fits Lw = record { funct3 = lit< tt; opcode = lit< tt }
load_code-fits Ld = record { funct3 = lit< tt; opcode = lit< tt }
load_code-fits Lbu = record { funct3 = lit< tt; opcode = lit< tt }
load_code-fits Lhu = record { funct3 = lit< tt; opcode = lit< tt }
load_code-fits Lwu = record { funct3 = lit< tt; opcode = lit< tt }

pub store_row-there : (op : StoreOp) → IsRow (store_row op)
unfolding table
store_row-there Sb = record { place = 15; is_there = refl }
store_row-there Sh = record { place = 16; is_there = refl }
store_row-there Sw = record { place = 17; is_there = refl }
store_row-there Sd = record { place = 18; is_there = refl }

pub store_code-fits : (op : StoreOp) → FitsCode (store_code op)
store_code-fits Sb = record { funct3 = lit< tt; opcode = lit< tt }
store_code-fits Sh = record { funct3 = lit< tt; opcode = lit< tt }
store_code-fits Sw = record { funct3 = lit< tt; opcode = lit< tt }
store_code-fits Sd = record { funct3 = lit< tt; opcode = lit< tt }

pub branch_row-there : (op : BranchOp) → IsRow (branch_row op)
unfolding table
branch_row-there Beq = record { place = 2; is_there = refl }
branch_row-there Bne = record { place = 3; is_there = refl }
branch_row-there Blt = record { place = 4; is_there = refl }
branch_row-there Bge = record { place = 5; is_there = refl }
branch_row-there Bltu = record { place = 6; is_there = refl }
branch_row-there Bgeu = record { place = 7; is_there = refl }

pub branch_code-fits : (op : BranchOp) → FitsCode (branch_code op)
branch_code-fits Beq = record { funct3 = lit< tt; opcode = lit< tt }
branch_code-fits Bne = record { funct3 = lit< tt; opcode = lit< tt }
branch_code-fits Blt = record { funct3 = lit< tt; opcode = lit< tt }
branch_code-fits Bge = record { funct3 = lit< tt; opcode = lit< tt }
branch_code-fits Bltu = record { funct3 = lit< tt; opcode = lit< tt }
branch_code-fits Bgeu = record { funct3 = lit< tt; opcode = lit< tt }

pub upper_row-there : (op : UpperOp) → IsRow (upper_row op)
unfolding table
upper_row-there Lui = record { place = 0; is_there = refl }
upper_row-there Auipc = record { place = 1; is_there = refl }

pub upper_opcode-fits : (op : UpperOp) → upper_opcode op < 128
upper_opcode-fits Lui = lit< tt
upper_opcode-fits Auipc = lit< tt

pub jal_row-there : IsRow jal_row
unfolding table
jal_row-there = record { place = 60; is_there = refl }

pub jalr_row-there : IsRow jalr_row
unfolding table
jalr_row-there = record { place = 61; is_there = refl }

pub fence_row-there : IsRow fence_row
unfolding table
fence_row-there = record { place = 62; is_there = refl }

pub ecall_row-there : IsRow (word_row ecall_word Ecall)
unfolding table
ecall_row-there = record { place = 63; is_there = refl }

pub ebreak_row-there : IsRow (word_row ebreak_word Ebreak)
unfolding table
ebreak_row-there = record { place = 64; is_there = refl }
