-- Facts of each element of a list and its place.
use Rattle.std.proofs.Common.{◌≡◌, ℕ, zero, suc, ◌+◌, ◌<◌, List, [], ◌∷◌, ◌++◌, length, sym, subst, ◌⊎◌, inl, inr, add-zero, arith}
use Rattle.std.specs.Prelude.{Some, slice_get}

-- the fact holds of each element, whose places are counted from k on
abbrev pub Each : {A : Type 0} → (ℕ → A → Type 0) → ℕ → List A → Type 0
Each P k [] = Unit {0}
Each P k (x ∷ xs) = P k x × Each P (suc k) xs

pub Each-append : {A : Type 0} (P : ℕ → A → Type 0) (k : ℕ) (xs ys : List A) → Each P k xs → Each P (k + length xs) ys → Each P k (xs ++ ys)
Each-append P k [] ys here rest = let Q : ℕ → Type 0 = λ n. Each P n ys in subst Q (add-zero k) rest
Each-append P k (x ∷ xs) ys here rest =
    let Q : ℕ → Type 0 = λ n. Each P n ys in
    let place : k + length (x ∷ xs) ≡ suc k + length xs = omega arith in
    (here.0, Each-append P (suc k) xs ys here.1 (subst Q place rest))

pub Each-at : {A : Type 0} (P : ℕ → A → Type 0) (k : ℕ) (xs : List A) (i : ℕ) (x : A) → Each P k xs → slice_get xs i ≡ Some x → P (k + i) x
Each-at P k [] i x each at = cc
Each-at P k (y ∷ xs) zero x each at =
    let same : y ≡ x = cc in
    let Q = P (k + 0) in
    let R : ℕ → Type 0 = λ n. P n y in
    subst Q same (subst R (sym (add-zero k)) each.0)
Each-at P k (y ∷ xs) (suc i) x each at =
    let place : suc k + i ≡ k + suc i = omega arith in
    let R : ℕ → Type 0 = λ n. P n x in
    subst R place (Each-at P (suc k) xs i x each.1 at)

pub Each-at_first : {A : Type 0} (P : ℕ → A → Type 0) (xs : List A) (i : ℕ) (x : A) → Each P 0 xs → slice_get xs i ≡ Some x → P i x
Each-at_first P xs i x each at =
    let place : 0 + i ≡ i = omega arith in
    let R : ℕ → Type 0 = λ n. P n x in
    subst R place (Each-at P 0 xs i x each at)

-- an element of two lists is one of the first or of the second
pub slice_get-append_cases : {A : Type 0} (xs ys : List A) (i : ℕ) (x : A) → slice_get (xs ++ ys) i ≡ Some x
    → (slice_get xs i ≡ Some x) × (i < length xs) ⊎ (j : ℕ) × (i ≡ length xs + j) × (slice_get ys j ≡ Some x)
slice_get-append_cases [] ys i x at = inr (i, omega arith, at)
slice_get-append_cases (y ∷ xs) ys zero x at = inl (at, omega arith)
slice_get-append_cases (y ∷ xs) ys (suc i) x at =
    elim (slice_get-append_cases xs ys i x at) [
      | inl h ↦ inl (h.0, omega (arith, h.1))
      | inr h ↦ inr (h.0, omega (arith, h.1), h.2)
    ]
