-- What the instructions give by which words and truth-values are compared and combined.
use Rattle.std.proofs.Common.{◌≡◌, ⊎_elim, ℕ, ◌+◌, ◌-◌, ◌*◌, ◌^◌, ◌<◌, Bool, true, false, not, ◌||◌, ℤ, pos, int_lt, FitsSigned, Some, refl, sym, ap, ◌∙◌, arith, w64, eqb, eq-eqb, ne_eqb, eqb-true, ltb}
use Rattle.std.specs.Prelude.{slice_get, bit_or, bit_xor}
use Rattle.std.proofs.lemmas.Int.{ints}
use Rattle.rv_code.proofs.Bools.{true-or-false}
use Rattle.rv_code.specs.Arithmetic.{wrap, signed, unsigned, truth}
use Rattle.rv_asm.specs.DataWords.{Heap}
use Rattle.action_terms.specs.Yielding.{int_eq, bool_eq}
use Rattle.rv_yield.specs.Evaluates.{HasCells}
use Rattle.rv_yield.proofs.Numbers.{signed-unsigned}

-- ---- whether words are the same

-- the difference of two words is below 1 exactly where they are the same
pub difference-zero : (x y : ℕ) → x < 2 ^ 64 → y < 2 ^ 64 → ltb (wrap (x + (2 ^ 64 - y))) 1 ≡ eqb x y
difference-zero x y a b = ⊎_elim (λ q. same q) (λ q. other q) (true-or-false (eqb x y))
  where
    same : eqb x y ≡ true → ltb (wrap (x + (2 ^ 64 - y))) 1 ≡ eqb x y
    same q = let e : x ≡ y = eqb-true x y q in let z : wrap (x + (2 ^ 64 - y)) ≡ 0 = omega (arith, a, b, e) in rw (z, q) refl

    other : eqb x y ≡ false → ltb (wrap (x + (2 ^ 64 - y))) 1 ≡ eqb x y
    other q = rw q (grind (arith, a, b, q))

pub number-same : (m n : ℤ) → FitsSigned w64 m → FitsSigned w64 n → eqb (unsigned m) (unsigned n) ≡ int_eq m n
number-same m n f g = grind (arith, ints)

pub truth-equal : (p q : Bool) → eqb (truth p) (truth q) ≡ bool_eq p q
truth-equal true true = refl
truth-equal true false = refl
truth-equal false true = refl
truth-equal false false = refl

-- the words of cells are the same exactly where the cells are
pub cell-same :
    (base count : ℕ) (heap : Heap) (j k p q : ℕ) → HasCells heap count → slice_get heap.cells j ≡ Some p → slice_get heap.cells k ≡ Some q →
    eqb (base + 8 * p) (base + 8 * q) ≡ eqb j k
cell-same base count heap j k p q cells a b = ⊎_elim (λ e. same e) (λ e. other e) (true-or-false (eqb j k))
  where
    same : eqb j k ≡ true → eqb (base + 8 * p) (base + 8 * q) ≡ eqb j k
    same e =
        let one : j ≡ k = eqb-true j k e in
        let places : Some p ≡ Some q = sym a ∙ ap (slice_get heap.cells) one ∙ b in
        let words : base + 8 * p ≡ base + 8 * q = cc in
        eq-eqb _ _ words ∙ sym e

    other : eqb j k ≡ false → eqb (base + 8 * p) (base + 8 * q) ≡ eqb j k
    other e =
        ne_eqb _ _ (λ words.
        let places : q ≡ p = omega (arith, words) in
        let one : j ≡ k = cells.apart j k p a (b ∙ ap Some places) in
        let yes' : eqb j k ≡ true = eq-eqb _ _ one in
        absurd (let t : true ≡ false = sym yes' ∙ e in cc))
        ∙ sym e

-- ---- the order of integers, and truth-values

pub less-same : (m n : ℤ) → FitsSigned w64 m → FitsSigned w64 n → int_lt (signed (unsigned m)) (signed (unsigned n)) ≡ int_lt m n
less-same m n f g = let p = signed-unsigned m f in let q = signed-unsigned n g in rw (p, q) refl

pub or-truth : (p q : Bool) → bit_or (truth p) (truth q) ≡ truth (p || q)
or-truth true true = refl
or-truth true false = refl
or-truth false true = refl
or-truth false false = refl

pub not-truth : (p : Bool) → bit_xor (truth p) (unsigned (pos 1)) ≡ truth (not p)
not-truth true = refl
not-truth false = refl
