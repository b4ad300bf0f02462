-- Roots that are taken from the front of a list.
use Rattle.std.proofs.Common.{◌≡◌, ℕ, zero, suc, ◌+◌, List, [], ◌∷◌, ◌++◌, take, drop, refl, sym, ap, ◌∙◌, add-one}
use Rattle.std.specs.Prelude.{sum}
use Rattle.std.proofs.lemmas.List.{drop-drop}
use Rattle.std.proofs.lemmas.List.Sums.{sum_by-cons, sum_by-append}
use Rattle.action_terms.specs.Numbering.{pieces}

take-suc_more : (n : ℕ) (xs : List ℕ) → take (suc n) xs ≡ take n xs ++ take 1 (drop n xs)
take-suc_more zero [] = refl
take-suc_more zero (x ∷ xs) = refl
take-suc_more (suc n) [] = refl
take-suc_more (suc n) (x ∷ xs) = ap (λ l. x ∷ l) (take-suc_more n xs)

-- one root more
pub take_more : (n : ℕ) (xs : List ℕ) → take (n + 1) xs ≡ take n xs ++ take 1 (drop n xs)
take_more n xs = rw add-one (take-suc_more n xs)

pub drop_more : (n : ℕ) (xs : List ℕ) → drop (n + 1) xs ≡ drop 1 (drop n xs)
drop_more n xs = sym (drop-drop 1 n xs)

pub ruleset taking = (take_more, drop_more)

pub drop_sum : (ms ns : List ℕ) (xs : List ℕ) → drop (sum (ms ++ ns)) xs ≡ drop (sum ns) (drop (sum ms) xs)
drop_sum ms ns xs = ap (λ n. drop n xs) (sum_by-append (λ n. n) ms ns) ∙ sym (drop-drop (sum ns) (sum ms) xs)

-- pieces of one list of lengths, and then of another
pub pieces_append : (ms ns : List ℕ) (xs : List ℕ) → pieces (ms ++ ns) xs ≡ pieces ms xs ++ pieces ns (drop (sum ms) xs)
pieces_append [] ns xs = refl
pieces_append (m ∷ ms) ns xs =
    let rest : drop (sum ms) (drop m xs) ≡ drop (sum (m ∷ ms)) xs = drop-drop (sum ms) m xs ∙ ap (λ n. drop n xs) (sym (sum_by-cons (λ n. n) m ms)) in
    ap (λ l. take m xs ∷ l) (pieces_append ms ns (drop m xs) ∙ ap (λ l. pieces ms (drop m xs) ++ pieces ns l) rest)

pub ruleset operands = (drop_sum, pieces_append)
