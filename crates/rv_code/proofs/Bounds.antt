-- What an operation gives is below 2 ^ 64.
use Rattle.std.proofs.Common.{ℕ, zero, suc, ◌-◌, ◌/◌, ◌%◌, ◌^◌, ◌<◌, ◌≤◌, Bool, true, false, ℤ, pos, negsuc, ◌*ℤ◌, int_rem, int_div, arith, eqb, if◌then◌else◌, w64}
use Rattle.std.specs.Int.{int_shr}
use Rattle.std.proofs.lemmas.Int.{ints, of_z-to_z}
use Rattle.std.proofs.lemmas.Nat.{or_lt, xor_lt, and_le_l, shr_le, mul-le}
use Rattle.std.proofs.lemmas.Int.{unsigned_abs-mul}
use Rattle.std.proofs.Math.Nat.{mod-le, div-le_self}
use Rattle.std.specs.Prelude.{unsigned_abs, neg_ℤ}
use Rattle.rv_code.specs.Arithmetic.{wrap, signed, unsigned, word, signed_word, truth, high, operation, immediate_operation, shift_operation, upper_value}
use Rattle.rv_code.specs.declared.instruction.OpImmOp.{OpImmOp}
use Rattle.rv_code.specs.declared.instruction.OpImmOp.TheVariants.{Addi, Slti, Sltiu, Xori, Ori, Andi, Addiw}
use Rattle.rv_code.specs.declared.instruction.ShiftOp.{ShiftOp}
use Rattle.rv_code.specs.declared.instruction.ShiftOp.TheVariants.{Slli, Srli, Srai, Slliw, Srliw, Sraiw}
use Rattle.rv_code.specs.declared.instruction.UpperOp.{UpperOp}
use Rattle.rv_code.specs.declared.instruction.UpperOp.TheVariants.{Lui, Auipc}
use Rattle.rv_code.specs.declared.instruction.OpOp.{OpOp}
use Rattle.rv_code.specs.declared.instruction.OpOp.TheVariants.{Add, Sub, Sll, Slt, Sltu, Xor, Srl, Sra, Or, And, Addw, Subw, Sllw, Srlw, Sraw, Mul, Mulh, Mulhsu, Mulhu, Div, Divu, Rem, Remu, Mulw, Divw, Divuw, Remw, Remuw}

pub truth-below : (b : Bool) → truth b < 2 ^ 64
truth-below true = omega arith
truth-below false = omega arith

pub if-below : (b : Bool) (x y m : ℕ) → x < m → y < m → (if b then x else y) < m
if-below true x y m p q = p
if-below false x y m p q = q

word-below : (n : ℕ) → word n < 2 ^ 64
word-below n = omega (arith, ints)

shr-below : (z : ℤ) (k : ℕ) → unsigned z < 2 ^ 64 → unsigned (int_shr z k) < 2 ^ 64
shr-below (pos n) k h = omega (arith, shr_le n k)
shr-below (negsuc n) k h = omega arith

signed-below : (n k : ℕ) → n < 2 ^ 64 → unsigned (int_shr (signed n) k) < 2 ^ 64
signed-below n k h = shr-below (signed n) k (omega (arith, of_z-to_z w64 n h))

signed_word-below : (n k : ℕ) → unsigned (int_shr (signed_word n) k) < 2 ^ 64
signed_word-below n k = shr-below (signed_word n) k (word-below n)

abs-signed : (n : ℕ) → n < 2 ^ 64 → unsigned_abs (signed n) ≤ 2 ^ 63
abs-signed n h = omega (arith, ints)

high-of : (z : ℤ) → unsigned_abs z < 2 ^ 128 → high z < 2 ^ 64
high-of (pos n) h = omega arith
high-of (negsuc n) h = omega arith

high-below : (x y : ℤ) → unsigned_abs x ≤ 2 ^ 63 → unsigned_abs y ≤ 2 ^ 64 → high (x *ℤ y) < 2 ^ 64
high-below x y h k = high-of (x *ℤ y) (omega (arith, unsigned_abs-mul x y, mul-le (unsigned_abs x) (unsigned_abs y) (2 ^ 63) (2 ^ 64) h k))

neg-below : (n : ℕ) → unsigned (neg_ℤ (pos n)) < 2 ^ 64
neg-below zero = omega arith
neg-below (suc n) = omega arith

rem-below : (x y : ℤ) → unsigned_abs x ≤ 2 ^ 63 → unsigned (int_rem x y) < 2 ^ 64
rem-below (pos a) y h = omega (arith, mod-le a (unsigned_abs y))
rem-below (negsuc a) y h = neg-below (suc a % unsigned_abs y)

abs-signed_word : (n : ℕ) → unsigned_abs (signed_word n) ≤ 2 ^ 63
abs-signed_word n = omega (arith, ints)

pub operation-below : (o : OpOp) (a b : ℕ) → a < 2 ^ 64 → b < 2 ^ 64 → operation o a b < 2 ^ 64
operation-below Add a b p q = omega arith
operation-below Sub a b p q = omega arith
operation-below Sll a b p q = omega arith
operation-below Slt a b p q = truth-below _
operation-below Sltu a b p q = truth-below _
operation-below Xor a b p q = xor_lt 64 a b p q
operation-below Srl a b p q = omega (arith, shr_le a (b % 64))
operation-below Sra a b p q = signed-below a (b % 64) p
operation-below Or a b p q = or_lt 64 a b p q
operation-below And a b p q = omega (arith, and_le_l a b)
operation-below Addw a b p q = word-below _
operation-below Subw a b p q = word-below _
operation-below Sllw a b p q = word-below _
operation-below Srlw a b p q = word-below _
operation-below Sraw a b p q = signed_word-below a (b % 32)
operation-below Mul a b p q = omega arith
operation-below Mulh a b p q = high-below (signed a) (signed b) (abs-signed a p) (omega (arith, abs-signed b q))
operation-below Mulhsu a b p q = high-below (signed a) (pos b) (abs-signed a p) (omega arith)
operation-below Mulhu a b p q = omega (arith, mul-le a b (2 ^ 64 - 1) (2 ^ 64 - 1) (omega arith) (omega arith))
operation-below Div a b p q = if-below (eqb b 0) (2 ^ 64 - 1) (wrap (unsigned (int_div (signed a) (signed b)))) (2 ^ 64) (omega arith) (omega arith)
operation-below Divu a b p q = if-below (eqb b 0) (2 ^ 64 - 1) (a / b) (2 ^ 64) (omega arith) (omega (arith, div-le_self a b))
operation-below Rem a b p q = if-below (eqb b 0) a (unsigned (int_rem (signed a) (signed b))) (2 ^ 64) p (rem-below (signed a) (signed b) (abs-signed a p))
operation-below Remu a b p q = if-below (eqb b 0) a (a % b) (2 ^ 64) p (omega (arith, mod-le a b))
operation-below Mulw a b p q = word-below _
operation-below Divw a b p q = if-below (eqb (b % 2 ^ 32) 0) (2 ^ 64 - 1) (word (unsigned (int_div (signed_word a) (signed_word b)))) (2 ^ 64) (omega arith) (word-below _)
operation-below Divuw a b p q = if-below (eqb (b % 2 ^ 32) 0) (2 ^ 64 - 1) (word (a % 2 ^ 32 / (b % 2 ^ 32))) (2 ^ 64) (omega arith) (word-below _)
operation-below Remw a b p q = if-below (eqb (b % 2 ^ 32) 0) (word a) (unsigned (int_rem (signed_word a) (signed_word b))) (2 ^ 64) (word-below a) (rem-below (signed_word a) (signed_word b) (abs-signed_word a))
operation-below Remuw a b p q = if-below (eqb (b % 2 ^ 32) 0) (word a) (word (a % 2 ^ 32 % (b % 2 ^ 32))) (2 ^ 64) (word-below a) (word-below _)

pub immediate_operation-below : (o : OpImmOp) (a : ℕ) (z : ℤ) → a < 2 ^ 64 → unsigned z < 2 ^ 64 → immediate_operation o a z < 2 ^ 64
immediate_operation-below Addi a z p q = omega arith
immediate_operation-below Slti a z p q = truth-below _
immediate_operation-below Sltiu a z p q = truth-below _
immediate_operation-below Xori a z p q = xor_lt 64 a (unsigned z) p q
immediate_operation-below Ori a z p q = or_lt 64 a (unsigned z) p q
immediate_operation-below Andi a z p q = omega (arith, and_le_l a (unsigned z))
immediate_operation-below Addiw a z p q = word-below _

pub shift_operation-below : (o : ShiftOp) (a k : ℕ) → a < 2 ^ 64 → shift_operation o a k < 2 ^ 64
shift_operation-below Slli a k p = omega arith
shift_operation-below Srli a k p = omega (arith, shr_le a k)
shift_operation-below Srai a k p = signed-below a k p
shift_operation-below Slliw a k p = word-below _
shift_operation-below Srliw a k p = word-below _
shift_operation-below Sraiw a k p = signed_word-below a k

pub upper_value-below : (o : UpperOp) (pc : ℕ) (z : ℤ) → unsigned z < 2 ^ 64 → upper_value o pc z < 2 ^ 64
upper_value-below Lui pc z q = q
upper_value-below Auipc pc z q = omega arith
