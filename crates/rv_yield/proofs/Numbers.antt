-- What the instructions of arithmetic give, and by which tests a result fits 64 bits.
use Rattle.std.proofs.Common.{◌≡◌, ◌⊎◌, ◌+◌, ◌-◌, ◌^◌, ◌<◌, Bool, true, false, not, ⊎_elim, ◌&&◌, ℤ, pos, ◌+ℤ◌, ◌-ℤ◌, neg_ℤ, int_lt, FitsSigned, refl, arith, w64, inl, inr, Some, None}
use Rattle.std.specs.Prelude.{int_le}
use Rattle.std.proofs.lemmas.Int.{ints, to_z-of_z}
use Rattle.rv_code.specs.Arithmetic.{wrap, signed, unsigned, truth}
use Rattle.action_terms.specs.Information.{Number}
use Rattle.action_terms.specs.Yielding.{within_64}

pub fits-below : (z : ℤ) → FitsSigned w64 z → unsigned z < 2 ^ 64
fits-below z f = omega (arith, ints)

pub signed-unsigned : (z : ℤ) → FitsSigned w64 z → signed (unsigned z) ≡ z
signed-unsigned z f = to_z-of_z w64 z f

pub truth-same : (p q : Bool) → truth p ≡ truth q → p ≡ q
truth-same true true e = refl
truth-same false false e = refl
truth-same true false e = absurd (omega arith)
truth-same false true e = absurd (omega arith)

-- what `within_64` says
pub within-cases : (n : ℤ) → ((within_64 n ≡ Some (Number n)) × FitsSigned w64 n) ⊎ ((within_64 n ≡ None) × (FitsSigned w64 n → ⊥))
within-cases n = by (int_le (neg_ℤ (pos (2 ^ 63))) n && int_lt n (pos (2 ^ 63))) refl
  where
    by : (q : Bool) → int_le (neg_ℤ (pos (2 ^ 63))) n && int_lt n (pos (2 ^ 63)) ≡ q → ((within_64 n ≡ Some (Number n)) × FitsSigned w64 n) ⊎ ((within_64 n ≡ None) × (FitsSigned w64 n → ⊥))
    by true e = inl (rw e refl, grind (arith, ints))
    by false e = inr (rw e refl, λ f. grind (arith, ints))

-- ---- sums and differences

pub sum-word : (a b : ℤ) → FitsSigned w64 a → FitsSigned w64 b → FitsSigned w64 (a +ℤ b) → wrap (unsigned a + unsigned b) ≡ unsigned (a +ℤ b)
sum-word a b f g h = omega (arith, ints)

pub sum-test : (a b : ℤ) → FitsSigned w64 a → FitsSigned w64 b → int_lt a (pos 0) ≡ int_lt (signed (wrap (unsigned a + unsigned b))) b → FitsSigned w64 (a +ℤ b)
sum-test a b f g h = grind (arith, ints)

pub sum-test-only : (a b : ℤ) → FitsSigned w64 a → FitsSigned w64 b → FitsSigned w64 (a +ℤ b) → int_lt a (pos 0) ≡ int_lt (signed (wrap (unsigned a + unsigned b))) b
sum-test-only a b f g h = grind (arith, ints)

pub difference-word : (a b : ℤ) → FitsSigned w64 a → FitsSigned w64 b → FitsSigned w64 (a -ℤ b) → wrap (unsigned a + (2 ^ 64 - unsigned b)) ≡ unsigned (a -ℤ b)
difference-word a b f g h = omega (arith, ints)

pub difference-test : (a b : ℤ) → FitsSigned w64 a → FitsSigned w64 b → int_lt a b ≡ int_lt (signed (wrap (unsigned a + (2 ^ 64 - unsigned b)))) (pos 0) → FitsSigned w64 (a -ℤ b)
difference-test a b f g h = grind (arith, ints)

pub difference-test-only : (a b : ℤ) → FitsSigned w64 a → FitsSigned w64 b → FitsSigned w64 (a -ℤ b) → int_lt a b ≡ int_lt (signed (wrap (unsigned a + (2 ^ 64 - unsigned b)))) (pos 0)
difference-test-only a b f g h = grind (arith, ints)

-- a sum with a number that isn't negative fits exactly where it isn't less than the other part
pub addition-up : (a b : ℤ) → FitsSigned w64 a → FitsSigned w64 b → int_lt b (pos 0) ≡ false → int_lt (signed (wrap (unsigned a + unsigned b))) a ≡ false → FitsSigned w64 (a +ℤ b)
addition-up a b f g n h = grind (arith, ints)

pub addition-up_only : (a b : ℤ) → FitsSigned w64 a → FitsSigned w64 b → int_lt b (pos 0) ≡ false → FitsSigned w64 (a +ℤ b) → int_lt (signed (wrap (unsigned a + unsigned b))) a ≡ false
addition-up_only a b f g n h = grind (arith, ints)

-- and one with a negative number exactly where it is less
pub addition-down : (a b : ℤ) → FitsSigned w64 a → FitsSigned w64 b → int_lt b (pos 0) ≡ true → not (int_lt (signed (wrap (unsigned a + unsigned b))) a) ≡ false → FitsSigned w64 (a +ℤ b)
addition-down a b f g n h = grind (arith, ints)

pub addition-down_only : (a b : ℤ) → FitsSigned w64 a → FitsSigned w64 b → int_lt b (pos 0) ≡ true → FitsSigned w64 (a +ℤ b) → not (int_lt (signed (wrap (unsigned a + unsigned b))) a) ≡ false
addition-down_only a b f g n h = let e : int_lt (signed (wrap (unsigned a + unsigned b))) a ≡ true = grind (arith, ints) in rw e refl

pub fits-within : (z : ℤ) → FitsSigned w64 z → within_64 z ≡ Some (Number z)
fits-within z f = ⊎_elim (λ w. w.0) (λ w. absurd (w.1 f)) (within-cases z)
