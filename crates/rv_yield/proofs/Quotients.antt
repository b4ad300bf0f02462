-- Which quotients and remainders there are, and which fit 64 bits.
use Rattle.std.proofs.Common.{◌≡◌, ℕ, zero, suc, ◌/◌, ◌^◌, ◌≤◌, Bool, true, false, ◌&&◌, ℤ, pos, negsuc, neg_ℤ, int_rem, int_div, int_lt, FitsSigned, refl, ◌∙◌, arith, w64, eqb, bit_and, div-le_self}
use Rattle.std.specs.Int.Signed.{mag_rem}
use Rattle.std.proofs.lemmas.Int.{ints}
use Rattle.rv_code.specs.Arithmetic.{wrap, signed, unsigned, truth, operation}
use Rattle.rv_code.specs.declared.instruction.OpOp.TheVariants.{Div, Rem}
use Rattle.action_terms.specs.Yielding.{int_eq}
use Rattle.rv_yield.proofs.Numbers.{fits-below, signed-unsigned}

-- a word is 0 exactly where its integer is
pub zero-word : (b : ℤ) → FitsSigned w64 b → eqb (unsigned b) 0 ≡ int_eq b (pos 0)
zero-word (pos zero) f = refl
zero-word (pos (suc n)) f = grind (arith, ints)
zero-word (negsuc n) f = grind (arith, ints)

pub rem-fits : (a b : ℤ) → FitsSigned w64 a → FitsSigned w64 (int_rem a b)
rem-fits a b f = record { sfits = omega (arith, mag_rem a b, f.sfits) }

pub remainder-word : (a b : ℤ) → FitsSigned w64 a → FitsSigned w64 b → int_eq b (pos 0) ≡ false → operation Rem (unsigned a) (unsigned b) ≡ unsigned (int_rem a b)
remainder-word a b f g h =
    let z : eqb (unsigned b) 0 ≡ false = zero-word b g ∙ h in
    rw (z, signed-unsigned a f, signed-unsigned b g) refl

pub quotient-word : (a b : ℤ) → FitsSigned w64 a → FitsSigned w64 b → int_eq b (pos 0) ≡ false → operation Div (unsigned a) (unsigned b) ≡ wrap (unsigned (int_div a b))
quotient-word a b f g h =
    let z : eqb (unsigned b) 0 ≡ false = zero-word b g ∙ h in
    rw (z, signed-unsigned a f, signed-unsigned b g) refl

pub quotient-word_fits : (a b : ℤ) → FitsSigned w64 (int_div a b) → wrap (unsigned (int_div a b)) ≡ unsigned (int_div a b)
quotient-word_fits a b h = omega (arith, fits-below (int_div a b) h)

-- whether both are negative and the word of the quotient is
abbrev pub is_over : (a b : ℤ) → Bool
is_over a b = int_lt a (pos 0) && int_lt b (pos 0) && int_lt (signed (wrap (unsigned (int_div a b)))) (pos 0)

fits-neg : (n : ℕ) → n ≤ 2 ^ 63 → FitsSigned w64 (neg_ℤ (pos n))
fits-neg zero h = record { sfits = omega arith }
fits-neg (suc n) h = record { sfits = omega arith }

-- then it doesn't fit
pub over-fits : (a b : ℤ) → FitsSigned w64 (int_div a b) → is_over a b ≡ false
over-fits (pos a) b f = let e : int_lt (pos a) (pos 0) ≡ false = grind (arith, ints) in rw e refl
over-fits (negsuc a) (pos b) f = let e : int_lt (pos b) (pos 0) ≡ false = grind (arith, ints) in rw e refl
over-fits (negsuc a) (negsuc b) f = grind (arith, ints)

-- and only then
pub over-fits_only : (a b : ℤ) → FitsSigned w64 a → is_over a b ≡ false → FitsSigned w64 (int_div a b)
over-fits_only (pos a) (pos b) f e = record { sfits = omega (arith, div-le_self a b, f.sfits) }
over-fits_only (pos a) (negsuc b) f e = fits-neg (a / suc b) (omega (arith, div-le_self a (suc b), f.sfits))
over-fits_only (negsuc a) (pos b) f e = fits-neg (suc a / b) (omega (arith, div-le_self (suc a) b, f.sfits))
over-fits_only (negsuc a) (negsuc b) f e =
    let few : suc a / suc b ≤ 2 ^ 63 = omega (arith, div-le_self (suc a) (suc b), f.sfits) in
    by (suc a / suc b) few e
  where
    by : (n : ℕ) → n ≤ 2 ^ 63 → int_lt (signed (wrap (unsigned (pos n)))) (pos 0) ≡ false → FitsSigned w64 (pos n)
    by n h e = grind (arith, ints)

-- 1 is the word of a truth value exactly where the values of both are true
pub and-truth : (p q : Bool) → bit_and (truth p) (truth q) ≡ truth (p && q)
and-truth true true = refl
and-truth true false = refl
and-truth false true = refl
and-truth false false = refl
