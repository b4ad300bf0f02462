-- Symbols at the front.
use Rattle.std.proofs.Common.{◌≡◌, ℕ, zero, suc, ◌<◌, ◌≤◌, ◌⊎◌, inl, inr, true, false, ◌==◌, List, [], ◌∷◌, length, take, get_or, refl, arith}
use Rattle.std.proofs.lemmas.Bool.Decides.{nat_tests}
use Rattle.std.proofs.lemmas.Bool.{eqb-true, eq-eqb}
use Rattle.std.proofs.lemmas.List.{length-take-le}
use Rattle.meta_lex.specs.Bytes.{is_single, is_bracket}
use Rattle.meta_lex.specs.Forms.{is_symbol, kind_of}
use Rattle.meta_lex.specs.Tokens.{IsToken, IsLongest, HasNone}
use Rattle.meta_lex.specs.declared.token.TokenKind.TheVariants.{Symbol}
use Rattle.meta_lex.proofs.Prefixes.{both, left, right}
use Rattle.meta_lex.proofs.FirstBytes.{longest_of_kind, none_of_kind}

-- what can follow the first byte of a symbol: nothing, or the same bracket
symbol_after : (b : ℕ) (xs : List ℕ) → is_symbol (b ∷ xs) ≡ true
    → ((is_single b ≡ true) × (length xs ≡ 0)) ⊎ ((is_bracket b ≡ true) × (length xs ≡ 1) × (get_or xs 0 0 ≡ b))
symbol_after b [] h = inl (h, refl)
symbol_after b (c ∷ []) h = inr (left (is_bracket b) (c == b) h, refl, eqb-true c b (right (is_bracket b) (c == b) h))
symbol_after b (c ∷ d ∷ xs) h = cc

single_only : (b : ℕ) → is_single b ≡ true → is_bracket b ≡ true → ⊥
single_only b s t = grind (arith, nat_tests)

single_bound : (b : ℕ) (rest : List ℕ) → is_single b ≡ true → (m : ℕ) → IsToken Symbol (b ∷ rest) m → m ≤ 1
single_bound b rest single zero t = omega arith
single_bound b rest single (suc m) t =
    let short : length (take m rest) ≡ m = length-take-le m rest (omega (arith, t.0)) in
    elim (symbol_after b (take m rest) t.1) [
      | inl w ↦ omega (arith, w.1)
      | inr w ↦ absurd (single_only b single w.0)
    ]

-- a symbol of one byte
pub single_longest : (b : ℕ) (rest : List ℕ) → is_single b ≡ true → IsLongest Symbol (b ∷ rest) 1
single_longest b rest single = longest_of_kind Symbol b rest 1 (omega arith, single) (single_bound b rest single)

pair_bound : (b : ℕ) (rest : List ℕ) (m : ℕ) → IsToken Symbol (b ∷ rest) m → m ≤ 2
pair_bound b rest zero t = omega arith
pair_bound b rest (suc m) t =
    let short : length (take m rest) ≡ m = length-take-le m rest (omega (arith, t.0)) in
    elim (symbol_after b (take m rest) t.1) [
      | inl w ↦ omega (arith, w.1)
      | inr w ↦ omega (arith, w.1)
    ]

-- two of one bracket
pub pair_longest : (b : ℕ) (rest : List ℕ) → is_bracket b ≡ true → 0 < length rest → get_or rest 0 0 ≡ b → IsLongest Symbol (b ∷ rest) 2
pair_longest b [] bracket some e = absurd (omega arith)
pair_longest b (c ∷ rest) bracket some e =
    longest_of_kind Symbol b (c ∷ rest) 2 (omega arith, both (is_bracket b) (c == b) bracket (eq-eqb c b e)) (pair_bound b (c ∷ rest))

no_symbol : (b : ℕ) (rest : List ℕ) → is_single b ≡ false → (is_bracket b ≡ true → 0 < length rest → get_or rest 0 0 ≡ b → ⊥)
    → (m : ℕ) → IsToken Symbol (b ∷ rest) m → ⊥
no_symbol b rest single pair zero t = cc
no_symbol b rest single pair (suc m) t =
    let short : length (take m rest) ≡ m = length-take-le m rest (omega (arith, t.0)) in
    elim (symbol_after b (take m rest) t.1) [
      | inl w ↦ cc
      | inr w ↦ no_pair b rest pair m w (omega (arith, t.0)) (omega (arith, w.1))
    ]
  where
    no_pair : (b : ℕ) (rest : List ℕ) → (is_bracket b ≡ true → 0 < length rest → get_or rest 0 0 ≡ b → ⊥)
        → (m : ℕ) → (is_bracket b ≡ true) × (length (take m rest) ≡ 1) × (get_or (take m rest) 0 0 ≡ b) → m ≤ length rest → m ≡ 1 → ⊥
    no_pair b [] pair m w short one = absurd (omega arith)
    no_pair b (c ∷ rest) pair zero w short one = absurd (omega arith)
    no_pair b (c ∷ rest) pair (suc m) w short one = pair w.0 (omega arith) w.2

-- another byte that can begin no token of another kind begins none
pub symbol_none : (b : ℕ) (rest : List ℕ) → kind_of b ≡ Symbol → is_single b ≡ false
    → (is_bracket b ≡ true → 0 < length rest → get_or rest 0 0 ≡ b → ⊥) → HasNone (b ∷ rest)
symbol_none b rest kind single pair = none_of_kind Symbol b rest kind (no_symbol b rest single pair)
