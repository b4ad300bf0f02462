-- The first of a list that is seen through a function.
use Rattle.std.proofs.Common.{◌≡◌, ◌∙◌, ℕ, zero, suc, ◌+◌, ◌<◌, List, [], ◌∷◌, ◌++◌, length, take, get_or, map, refl, sym, ap, add-one, arith}

-- those so far, and one more
pub take_mapped : {A B : Type 0} (f : A → B) (list : List A) (i : ℕ) (d : A) → i < length list → take (i + 1) (map f list) ≡ take i (map f list) ++ f (get_or list i d) ∷ []
take_mapped {A} {B} f list i d h = ap (λ k. take k (map f list)) (add-one i) ∙ sym (go list i h)
  where
    go : (list : List A) (i : ℕ) → i < length list → take i (map f list) ++ f (get_or list i d) ∷ [] ≡ take (suc i) (map f list)
    go [] i h = absurd (omega arith)
    go (x ∷ list) zero h = refl
    go (x ∷ list) (suc i) h = ap (λ ys. f x ∷ ys) (go list i (omega arith))

pub taken : {A B : Type 0} (f : A → B) (list : List A) (i : ℕ) → i < length list → length (take i (map f list)) ≡ i
taken f [] i h = absurd (omega arith)
taken f (x ∷ list) zero h = refl
taken f (x ∷ list) (suc i) h = ap suc (taken f list i (omega arith))
