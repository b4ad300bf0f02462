-- What the operations compute. A register holds a number below 2 ^ 64, and an immediate is an integer.
use Rattle.std.specs.Prelude.{ℕ, ◌+◌, ◌-◌, ◌*◌, ◌/◌, ◌%◌, ◌^◌, Bool, not, nat_eq, nat_lt, if◌then◌else◌, ℤ, pos, ◌*ℤ◌, int_lt, int_div, int_rem, bit_and, bit_or, bit_xor}
use Rattle.std.specs.Int.{w32, w64, cast_signed, cast_unsigned, int_shr}
use Rattle.rv_code.specs.declared.instruction.OpOp.{OpOp}
use Rattle.rv_code.specs.declared.instruction.OpOp.TheVariants.{Add, Sub, Sll, Slt, Sltu, Xor, Srl, Sra, Or, And, Addw, Subw, Sllw, Srlw, Sraw, Mul, Mulh, Mulhsu, Mulhu, Div, Divu, Rem, Remu, Mulw, Divw, Divuw, Remw, Remuw}
use Rattle.rv_code.specs.declared.instruction.OpImmOp.{OpImmOp}
use Rattle.rv_code.specs.declared.instruction.OpImmOp.TheVariants.{Addi, Slti, Sltiu, Xori, Ori, Andi, Addiw}
use Rattle.rv_code.specs.declared.instruction.ShiftOp.{ShiftOp}
use Rattle.rv_code.specs.declared.instruction.ShiftOp.TheVariants.{Slli, Srli, Srai, Slliw, Srliw, Sraiw}
use Rattle.rv_code.specs.declared.instruction.LoadOp.{LoadOp}
use Rattle.rv_code.specs.declared.instruction.LoadOp.TheVariants.{Lb, Lh, Lw, Ld, Lbu, Lhu, Lwu}
use Rattle.rv_code.specs.declared.instruction.StoreOp.{StoreOp}
use Rattle.rv_code.specs.declared.instruction.StoreOp.TheVariants.{Sb, Sh, Sw, Sd}
use Rattle.rv_code.specs.declared.instruction.BranchOp.{BranchOp}
use Rattle.rv_code.specs.declared.instruction.BranchOp.TheVariants.{Beq, Bne, Blt, Bge, Bltu, Bgeu}
use Rattle.rv_code.specs.declared.instruction.UpperOp.{UpperOp}
use Rattle.rv_code.specs.declared.instruction.UpperOp.TheVariants.{Lui, Auipc}

-- ---- numbers of 64 bits, in two's complement

-- the low 64 bits
abbrev pub wrap : ℕ → ℕ
wrap n = n % 2 ^ 64

-- the integer that 64 bits are
abbrev pub signed : ℕ → ℤ
signed n = cast_signed w64 n

-- the low 64 bits of an integer
abbrev pub unsigned : ℤ → ℕ
unsigned z = cast_unsigned w64 z

-- the integer that the low 32 bits are
abbrev pub signed_word : ℕ → ℤ
signed_word n = cast_signed w32 (n % 2 ^ 32)

-- the low 32 bits, extended to 64 by their sign
abbrev pub word : ℕ → ℕ
word n = unsigned (signed_word n)

-- 1 for true, 0 for false
abbrev pub truth : Bool → ℕ
truth b = if b then 1 else 0

-- the 64 bits of an integer from bit 64 on
abbrev pub high : ℤ → ℕ
high z = unsigned (int_shr z 64)

-- a number of k bits, extended to 64 by its sign
abbrev pub sign_extended : ℕ → ℕ → ℕ
sign_extended k n = if nat_lt n (2 ^ (k - 1)) then n else n + (2 ^ 64 - 2 ^ k)

-- ---- one line an instruction

-- what an operation on two registers gives; a is rs1, b is rs2
abbrev pub operation : OpOp → ℕ → ℕ → ℕ
operation Add a b = wrap (a + b)
operation Sub a b = wrap (a + (2 ^ 64 - b))
operation Sll a b = wrap (a * 2 ^ (b % 64))
operation Slt a b = truth (int_lt (signed a) (signed b))
operation Sltu a b = truth (nat_lt a b)
operation Xor a b = bit_xor a b
operation Srl a b = a / 2 ^ (b % 64)
operation Sra a b = unsigned (int_shr (signed a) (b % 64))
operation Or a b = bit_or a b
operation And a b = bit_and a b
operation Addw a b = word (a + b)
operation Subw a b = word (a + (2 ^ 64 - b))
operation Sllw a b = word (a * 2 ^ (b % 32))
operation Srlw a b = word (a % 2 ^ 32 / 2 ^ (b % 32))
operation Sraw a b = unsigned (int_shr (signed_word a) (b % 32))
operation Mul a b = wrap (a * b)
operation Mulh a b = high (signed a *ℤ signed b)
operation Mulhsu a b = high (signed a *ℤ pos b)
operation Mulhu a b = a * b / 2 ^ 64
operation Div a b = if nat_eq b 0 then 2 ^ 64 - 1 else wrap (unsigned (int_div (signed a) (signed b)))
operation Divu a b = if nat_eq b 0 then 2 ^ 64 - 1 else a / b
operation Rem a b = if nat_eq b 0 then a else unsigned (int_rem (signed a) (signed b))
operation Remu a b = if nat_eq b 0 then a else a % b
operation Mulw a b = word (a * b)
operation Divw a b = if nat_eq (b % 2 ^ 32) 0 then 2 ^ 64 - 1 else word (unsigned (int_div (signed_word a) (signed_word b)))
operation Divuw a b = if nat_eq (b % 2 ^ 32) 0 then 2 ^ 64 - 1 else word (a % 2 ^ 32 / (b % 2 ^ 32))
operation Remw a b = if nat_eq (b % 2 ^ 32) 0 then word a else unsigned (int_rem (signed_word a) (signed_word b))
operation Remuw a b = if nat_eq (b % 2 ^ 32) 0 then word a else word (a % 2 ^ 32 % (b % 2 ^ 32))

-- what an operation on a register and an immediate gives
abbrev pub immediate_operation : OpImmOp → ℕ → ℤ → ℕ
immediate_operation Addi a z = wrap (a + unsigned z)
immediate_operation Slti a z = truth (int_lt (signed a) z)
immediate_operation Sltiu a z = truth (nat_lt a (unsigned z))
immediate_operation Xori a z = bit_xor a (unsigned z)
immediate_operation Ori a z = bit_or a (unsigned z)
immediate_operation Andi a z = bit_and a (unsigned z)
immediate_operation Addiw a z = word (a + unsigned z)

-- what a shift by a constant amount gives
abbrev pub shift_operation : ShiftOp → ℕ → ℕ → ℕ
shift_operation Slli a k = wrap (a * 2 ^ k)
shift_operation Srli a k = a / 2 ^ k
shift_operation Srai a k = unsigned (int_shr (signed a) k)
shift_operation Slliw a k = word (a * 2 ^ k)
shift_operation Srliw a k = word (a % 2 ^ 32 / 2 ^ k)
shift_operation Sraiw a k = unsigned (int_shr (signed_word a) k)

-- whether a branch is taken
abbrev pub is_taken : BranchOp → ℕ → ℕ → Bool
is_taken Beq a b = nat_eq a b
is_taken Bne a b = not (nat_eq a b)
is_taken Blt a b = int_lt (signed a) (signed b)
is_taken Bge a b = not (int_lt (signed a) (signed b))
is_taken Bltu a b = nat_lt a b
is_taken Bgeu a b = not (nat_lt a b)

-- what an instruction with an upper immediate gives
abbrev pub upper_value : UpperOp → ℕ → ℤ → ℕ
upper_value Lui pc z = unsigned z
upper_value Auipc pc z = wrap (pc + unsigned z)

-- how many bytes a load reads
abbrev pub load_size : LoadOp → ℕ
load_size Lb = 1
load_size Lh = 2
load_size Lw = 4
load_size Ld = 8
load_size Lbu = 1
load_size Lhu = 2
load_size Lwu = 4

-- what a load makes of the number that its bytes spell
abbrev pub extended : LoadOp → ℕ → ℕ
extended Lb n = sign_extended 8 n
extended Lh n = sign_extended 16 n
extended Lw n = sign_extended 32 n
extended Ld n = n
extended Lbu n = n
extended Lhu n = n
extended Lwu n = n

-- how many bytes a store writes
abbrev pub store_size : StoreOp → ℕ
store_size Sb = 1
store_size Sh = 2
store_size Sw = 4
store_size Sd = 8
