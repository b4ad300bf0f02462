-- Integers of 32, 64 and 128 bits: which results fit, and casts that change nothing.
use Rattle.std.proofs.Common.{◌≡◌, ℕ, zero, suc, ◌/◌, ◌%◌, ◌-◌, ◌^◌, ◌<◌, ◌≤◌, ℤ, pos, negsuc, refl, ◌∙◌, arith, false, nat_eq, w32, w64, lit<}
use Rattle.std.specs.Prelude.{◌*ℤ◌}
use Rattle.std.specs.Int.{w128}
use Rattle.std.specs.Int.RustNames.{unsigned_abs}
use Rattle.std.specs.Int.Signed.{mag, mag_rem}
use Rattle.std.proofs.lemmas.Int.{to_z-of_z, fits_signed_mul}
use Rattle.std.proofs.Math.Nat.{div-le_self}
use mir.Val.{SFits, of_z, to_z}
use lib.IntN.{neg_ℤ}
use lib.Signed.{quot_z, rem_z, shr_z}
use Rattle.rv_code.specs.Arithmetic.{signed_word, unsigned, high}

-- an integer of 32 bits is one of 64
pub widened : (z : ℤ) → SFits w32 z → SFits w64 z
widened z h = record { sfits = omega (arith, h.sfits) }

-- an integer of 64 bits is one of 128
pub doubled : (z : ℤ) → SFits w64 z → SFits w128 z
doubled z h = record { sfits = omega (arith, h.sfits) }

abs-bound : (z : ℤ) → SFits w64 z → unsigned_abs z ≤ 2 ^ 63
abs-bound (pos n) h = omega (arith, h.sfits)
abs-bound (negsuc n) h = omega (arith, h.sfits)

-- the product of two integers of 64 bits
pub product-fits : (x y : ℤ) → SFits w64 x → SFits w64 y → SFits w128 (x *ℤ y)
product-fits x y h k = fits_signed_mul w128 x y (2 ^ 63) (2 ^ 63) (abs-bound x h) (abs-bound y k) (lit< tt)

-- the product of an integer of 64 bits and a number of 64 bits
pub mixed-product-fits : (x : ℤ) (n : ℕ) → SFits w64 x → n < 2 ^ 64 → SFits w128 (x *ℤ pos n)
mixed-product-fits x n h k = fits_signed_mul w128 x (pos n) (2 ^ 63) (2 ^ 64 - 1) (abs-bound x h) (omega arith) (lit< tt)

-- the upper half of an integer of 128 bits
pub half-fits : (z : ℤ) → SFits w128 z → SFits w64 (shr_z z (2 ^ 64))
half-fits (pos n) h = record { sfits = omega (arith, h.sfits) }
half-fits (negsuc n) h = record { sfits = omega (arith, h.sfits) }

-- the casts round the upper half of a product change nothing
pub high-half : (p : ℤ) → SFits w128 p →
    of_z w64 (to_z w64 (of_z w64 (to_z w128 (of_z w128 (shr_z (to_z w128 (of_z w128 p)) (2 ^ 64)))))) ≡ high p
high-half p h =
    let half : SFits w64 (shr_z p (2 ^ 64)) = half-fits p h in
    let wide : SFits w128 (shr_z p (2 ^ 64)) = doubled _ half in
    simp to_z-of_z

mag-neg : (n : ℕ) → mag (neg_ℤ (pos n)) ≤ n
mag-neg zero = omega arith
mag-neg (suc n) = omega arith

-- the quotient of an integer of 32 bits
pub quotient-fits : (a b : ℤ) → SFits w32 a → SFits w64 (quot_z a b)
quotient-fits (pos a) (pos b) h = record { sfits = omega (arith, h.sfits, div-le_self a b) }
quotient-fits (pos a) (negsuc b) h = record { sfits = omega (arith, h.sfits, mag-neg (a / suc b), div-le_self a (suc b)) }
quotient-fits (negsuc a) (pos b) h = record { sfits = omega (arith, h.sfits, mag-neg (suc a / b), div-le_self (suc a) b) }
quotient-fits (negsuc a) (negsuc b) h = record { sfits = omega (arith, h.sfits, div-le_self (suc a) (suc b)) }

-- the remainder of an integer of 32 bits
pub remainder-fits : (a b : ℤ) → SFits w32 a → SFits w64 (rem_z a b)
remainder-fits a b h = record { sfits = omega (arith, h.sfits, mag_rem a b) }

-- a product of two integers of 64 bits, and its upper half
pub mulh-bits : (a b : ℕ) (x y p q : ℤ) (r : ℕ) → mag x < 2 ^ 63 → mag y < 2 ^ 63 → x ≡ to_z w64 a → y ≡ to_z w64 b →
    p ≡ to_z w64 (of_z w64 x) → q ≡ to_z w64 (of_z w64 y) →
    r ≡ of_z w64 (to_z w64 (of_z w64 (to_z w128 (of_z w128 (shr_z (to_z w128 (of_z w128 (to_z w128 (of_z w128 p) *ℤ to_z w128 (of_z w128 q)))) (2 ^ 64)))))) →
    r ≡ high (to_z w64 a *ℤ to_z w64 b)
mulh-bits a b x y p q r mx my ex ey ep eq er =
    let fx : SFits w64 x = record { sfits = mx } in
    let fy : SFits w64 y = record { sfits = my } in
    let px : p ≡ x = ep ∙ to_z-of_z w64 x fx in
    let qy : q ≡ y = eq ∙ to_z-of_z w64 y fy in
    rw (er, px, qy, to_z-of_z w128 x (doubled x fx), to_z-of_z w128 y (doubled y fy), high-half (x *ℤ y) (product-fits x y fx fy), ex, ey) refl

-- a product of an integer and a number of 64 bits, and its upper half
pub mulhsu-bits : (a b : ℕ) (x p q : ℤ) (r : ℕ) → mag x < 2 ^ 63 → b < 2 ^ 64 → x ≡ to_z w64 a →
    p ≡ to_z w64 (of_z w64 x) → q ≡ pos b →
    r ≡ of_z w64 (to_z w64 (of_z w64 (to_z w128 (of_z w128 (shr_z (to_z w128 (of_z w128 (to_z w128 (of_z w128 p) *ℤ to_z w128 (of_z w128 q)))) (2 ^ 64)))))) →
    r ≡ high (to_z w64 a *ℤ pos b)
mulhsu-bits a b x p q r mx mb ex ep eq er =
    let fx : SFits w64 x = record { sfits = mx } in
    let fb : SFits w128 (pos b) = record { sfits = omega (arith, mb) } in
    let px : p ≡ x = ep ∙ to_z-of_z w64 x fx in
    rw (er, px, eq, to_z-of_z w128 x (doubled x fx), to_z-of_z w128 (pos b) fb, high-half (x *ℤ pos b) (mixed-product-fits x b fx mb), ex) refl

-- a quotient of two integers of 32 bits
pub quotient-bits : (a b : ℤ) (s t x y : ℤ) (r : ℕ) → mag s < 2 ^ 31 → mag t < 2 ^ 31 → s ≡ a → t ≡ b →
    x ≡ to_z w32 (of_z w32 s) → y ≡ to_z w32 (of_z w32 t) →
    r ≡ of_z w64 (to_z w64 (of_z w64 (quot_z (to_z w64 (of_z w64 x)) (to_z w64 (of_z w64 y))))) →
    r ≡ unsigned (quot_z a b)
quotient-bits a b s t x y r ms mt es et ex ey er =
    let fs : SFits w32 s = record { sfits = ms } in
    let ft : SFits w32 t = record { sfits = mt } in
    let xs : x ≡ s = ex ∙ to_z-of_z w32 s fs in
    let yt : y ≡ t = ey ∙ to_z-of_z w32 t ft in
    rw (er, xs, yt, to_z-of_z w64 s (widened s fs), to_z-of_z w64 t (widened t ft), to_z-of_z w64 (quot_z s t) (quotient-fits s t fs), es, et) refl

-- a remainder of two integers of 32 bits
pub remainder-bits : (a b : ℤ) (s t x y : ℤ) (r : ℕ) → mag s < 2 ^ 31 → mag t < 2 ^ 31 → s ≡ a → t ≡ b →
    x ≡ to_z w32 (of_z w32 s) → y ≡ to_z w32 (of_z w32 t) →
    r ≡ of_z w64 (to_z w64 (of_z w64 (rem_z (to_z w64 (of_z w64 x)) (to_z w64 (of_z w64 y))))) →
    r ≡ unsigned (rem_z a b)
remainder-bits a b s t x y r ms mt es et ex ey er =
    let fs : SFits w32 s = record { sfits = ms } in
    let ft : SFits w32 t = record { sfits = mt } in
    let xs : x ≡ s = ex ∙ to_z-of_z w32 s fs in
    let yt : y ≡ t = ey ∙ to_z-of_z w32 t ft in
    rw (er, xs, yt, to_z-of_z w64 s (widened s fs), to_z-of_z w64 t (widened t ft), to_z-of_z w64 (rem_z s t) (remainder-fits s t fs), es, et) refl

-- a number whose lowest 32 bits are an integer other than 0
pub word-not_zero : (b : ℕ) (t : ℤ) → t ≡ signed_word b → (of_z w32 t ≡ 0 → ⊥) → nat_eq (b % 4294967296) 0 ≡ false
word-not_zero b t et h =
    let zero_word : b % 4294967296 ≡ 0 → ⊥ = λ e. h (rw (et, e) refl) in
    grind (arith, zero_word)
