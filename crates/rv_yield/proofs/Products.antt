-- Which products fit 64 bits: the test by the high word.
use Rattle.std.proofs.Common.{◌≡◌, ℕ, ◌-◌, ◌*◌, ◌%◌, ◌^◌, ◌<◌, ◌≤◌, ℤ, pos, negsuc, ◌*ℤ◌, FitsSigned, unsigned_abs, sym, ap, ◌∙◌, subst, arith, w64, mul-le-mul}
use Rattle.std.specs.Int.{int_shr, int_wrap}
use Rattle.std.proofs.lemmas.Int.{ints, of_z-to_z, wrapping_mul-bits, int_wrap_fits, SFits-int_wrap, unsigned_abs-mul}
use Rattle.rv_code.specs.Arithmetic.{wrap, signed, unsigned, high}
use Rattle.rv_yield.proofs.Numbers.{fits-below, signed-unsigned}

-- the product by its low word
pub product-word : (a b : ℤ) → FitsSigned w64 a → FitsSigned w64 b → signed (wrap (unsigned a * unsigned b)) ≡ int_wrap w64 (a *ℤ b)
product-word a b f g =
    wrapping_mul-bits w64 (unsigned a) (unsigned b) (fits-below a f) (fits-below b g)
    ∙ ap (λ x. int_wrap w64 (x *ℤ signed (unsigned b))) (signed-unsigned a f) ∙ ap (λ y. int_wrap w64 (a *ℤ y)) (signed-unsigned b g)

-- and where it fits
pub product-word_fits : (a b : ℤ) → FitsSigned w64 a → FitsSigned w64 b → FitsSigned w64 (a *ℤ b) → wrap (unsigned a * unsigned b) ≡ unsigned (a *ℤ b)
product-word_fits a b f g h =
    let m = wrap (unsigned a * unsigned b) in
    let small : m < 2 ^ 64 = omega arith in
    sym (of_z-to_z w64 m small) ∙ ap unsigned (product-word a b f g ∙ int_wrap_fits w64 (a *ℤ b) h)

-- a product that fits has its sign in each bit of its high word
pub high-fits : (z : ℤ) → FitsSigned w64 z → high z ≡ unsigned (int_shr (int_wrap w64 z) 63)
high-fits z f = rw (int_wrap_fits w64 z f) (by-sign z f)
  where
    by-sign : (z : ℤ) → FitsSigned w64 z → high z ≡ unsigned (int_shr z 63)
    by-sign (pos n) f = omega (arith, ints)
    by-sign (negsuc n) f = omega (arith, ints)

-- an integer's low 64 bits
abbrev low : ℤ → ℕ
low (pos n) = n % 2 ^ 64
low (negsuc n) = 2 ^ 64 - 1 - n % 2 ^ 64

unsigned-wrap : (z : ℤ) → unsigned (int_wrap w64 z) ≡ low z
unfolding int_wrap
unsigned-wrap (pos n) = of_z-to_z w64 (n % 2 ^ 64) (omega arith)
unsigned-wrap (negsuc n) = of_z-to_z w64 (2 ^ 64 - 1 - n % 2 ^ 64) (omega arith)

abs-bound : (z : ℤ) → FitsSigned w64 z → unsigned_abs z ≤ 2 ^ 63
abs-bound (pos n) f = omega (arith, ints)
abs-bound (negsuc n) f = omega (arith, ints)

fits-by_high : (z w : ℤ) → unsigned w ≡ low z → FitsSigned w64 w → unsigned_abs z ≤ 2 ^ 126 → high z ≡ unsigned (int_shr w 63) → FitsSigned w64 z
fits-by_high (pos n) (pos w) e f b h = omega (arith, ints)
fits-by_high (pos n) (negsuc w) e f b h = omega (arith, ints)
fits-by_high (negsuc n) (pos w) e f b h = omega (arith, ints)
fits-by_high (negsuc n) (negsuc w) e f b h = omega (arith, ints)

-- and only such a product
pub high-fits_only : (a b : ℤ) → FitsSigned w64 a → FitsSigned w64 b → high (a *ℤ b) ≡ unsigned (int_shr (int_wrap w64 (a *ℤ b)) 63) → FitsSigned w64 (a *ℤ b)
high-fits_only a b f g h =
    let size : unsigned_abs (a *ℤ b) ≤ 2 ^ 63 * 2 ^ 63 = subst (λ n. n ≤ 2 ^ 63 * 2 ^ 63) (sym (unsigned_abs-mul a b)) (mul-le-mul (abs-bound a f) (abs-bound b g)) in
    fits-by_high (a *ℤ b) (int_wrap w64 (a *ℤ b)) (unsigned-wrap (a *ℤ b)) (SFits-int_wrap w64 (a *ℤ b)) size h
