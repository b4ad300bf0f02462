-- Parts of a list of tokens.
use Rattle.std.proofs.Common.{◌≡◌, ◌∙◌, ℕ, zero, suc, ◌+◌, ◌-◌, List, [], ◌∷◌, take, drop, refl, sym, ap, arith}
use Rattle.std.specs.Prelude.{slice_range}
use Rattle.meta_reader.specs.ItemForms.{Tokens}

take_none : (n : ℕ) → take {A = List ℕ} n [] ≡ []
take_none zero = refl
take_none (suc n) = refl

drop_none : (n : ℕ) → drop {A = List ℕ} n [] ≡ []
drop_none zero = refl
drop_none (suc n) = refl

drop_take : (n k : ℕ) (ts : Tokens) → drop n (take k ts) ≡ take (k - n) (drop n ts)
drop_take zero k ts = let e : k - 0 ≡ k = omega arith in ap (λ m. take m ts) (sym e)
drop_take (suc n) zero [] = sym (take_none (0 - suc n))
drop_take (suc n) zero (t ∷ ts) = let e : 0 - suc n ≡ 0 = omega arith in ap (λ m. take m (drop n ts)) (sym e)
drop_take (suc n) (suc k) [] = sym (take_none (suc k - suc n))
drop_take (suc n) (suc k) (t ∷ ts) = let e : suc k - suc n ≡ k - n = omega arith in drop_take n k ts ∙ ap (λ m. take m (drop n ts)) (sym e)

-- from a place behind another one
pub drop_drop : (n m : ℕ) (ts : Tokens) → drop n (drop m ts) ≡ drop (m + n) ts
drop_drop n zero ts = let e : 0 + n ≡ n = omega arith in ap (λ k. drop k ts) (sym e)
drop_drop n (suc m) [] = drop_none n ∙ sym (drop_none (suc m + n))
drop_drop n (suc m) (t ∷ ts) = let e : suc m + n ≡ suc (m + n) = omega arith in drop_drop n m ts ∙ ap (λ k. drop k (t ∷ ts)) (sym e)

-- the rest of a part
pub slice_rest : (all : Tokens) (from to n : ℕ) → drop n (slice_range all from to) ≡ slice_range all (from + n) to
slice_rest all from to n =
    let e : to - from - n ≡ to - (from + n) = omega arith in
    drop_take n (to - from) (drop from all) ∙ ap (λ m. take m (drop n (drop from all))) e ∙ ap (take (to - (from + n))) (drop_drop n from all)
