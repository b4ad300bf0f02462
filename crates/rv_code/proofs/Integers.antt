-- Integers and their bits.
use Rattle.std.proofs.Common.{◌≡◌, ℕ, zero, suc, ◌-◌, ◌*◌, ◌%◌, ◌^◌, ◌<◌, ◌≤◌, true, false, ℤ, pos, negsuc, refl, ap, arith, ltb-true, le-ltb, eqb-true, nat_lt}
use Rattle.std.proofs.Math.Nat.{pow-succ'}
use Rattle.rv_code.specs.Table.{integer_of_bits}
use Rattle.rv_code.specs.Encode.{bits_of_integer, has_bits, is_multiple}

double : (k : ℕ) → 1 ≤ k → 2 ^ k ≡ 2 * 2 ^ (k - 1)
double zero h = absurd (omega arith)
double (suc k) h = let e : suc k - 1 ≡ k = omega arith in rw (e, pow-succ') refl

pub integer_of_bits-bits : (k : ℕ) (z : ℤ) → 1 ≤ k → has_bits k z ≡ true → integer_of_bits k (bits_of_integer k z) ≡ z
integer_of_bits-bits k (pos n) h e = rw e refl
integer_of_bits-bits k (negsuc n) h e =
    let d = double k h in
    let below : n < 2 ^ (k - 1) = ltb-true _ _ e in
    let high : nat_lt (2 ^ k - 1 - n) (2 ^ (k - 1)) ≡ false = le-ltb _ _ (omega arith) in
    rw high (ap negsuc (omega arith))

pub bits_of_integer-below : (k : ℕ) (z : ℤ) → 1 ≤ k → has_bits k z ≡ true → bits_of_integer k z < 2 ^ k
bits_of_integer-below k (pos n) h e = let d = double k h in let below : n < 2 ^ (k - 1) = ltb-true _ _ e in omega arith
bits_of_integer-below k (negsuc n) h e = let d = double k h in let below : n < 2 ^ (k - 1) = ltb-true _ _ e in omega arith

pub bits_of_integer-integer : (k n : ℕ) → n < 2 ^ k → bits_of_integer k (integer_of_bits k n) ≡ n
bits_of_integer-integer k n h = grind arith

pub has_bits-integer : (k n : ℕ) → 1 ≤ k → n < 2 ^ k → has_bits k (integer_of_bits k n) ≡ true
has_bits-integer k n h l = let d = double k h in grind arith

-- a multiple has its low bits 0
pub bits_of_integer-even : (k : ℕ) (z : ℤ) → 1 ≤ k → has_bits k z ≡ true → is_multiple 2 z ≡ true → bits_of_integer k z % 2 ≡ 0
bits_of_integer-even k (pos n) h b e = eqb-true _ _ e
bits_of_integer-even k (negsuc n) h b e = let d = double k h in let below : n < 2 ^ (k - 1) = ltb-true _ _ b in let m : suc n % 2 ≡ 0 = eqb-true _ _ e in omega arith

pub integer_of_bits-even : (k n : ℕ) → 1 ≤ k → n < 2 ^ k → n % 2 ≡ 0 → is_multiple 2 (integer_of_bits k n) ≡ true
integer_of_bits-even k n h l e = let d = double k h in grind arith

pub bits_of_integer-pages : (z : ℤ) → has_bits 32 z ≡ true → is_multiple 4096 z ≡ true → bits_of_integer 32 z % 4096 ≡ 0
bits_of_integer-pages (pos n) b e = eqb-true _ _ e
bits_of_integer-pages (negsuc n) b e = let below : n < 2 ^ 31 = ltb-true _ _ b in let m : suc n % 4096 ≡ 0 = eqb-true _ _ e in omega arith

pub integer_of_bits-pages : (n : ℕ) → n < 2 ^ 32 → n % 4096 ≡ 0 → is_multiple 4096 (integer_of_bits 32 n) ≡ true
integer_of_bits-pages n l e = grind arith
