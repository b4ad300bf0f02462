-- The bytes of an identifier can be a token of an action.
use Rattle.std.proofs.Common.{◌≡◌, ◌⊎◌, ℕ, ◌≤◌, true, false, List, [], ◌∷◌, refl, arith, inl, inr}
use Rattle.std.specs.Prelude.{◌&&◌, ◌||◌, ◌==◌, nat_le, nat_eq, not}
use Rattle.std.specs.List.{list_all}
use Rattle.std.proofs.lemmas.Bool.{and_parts, and_from, not_from_false, or_cases, leb-true, le-leb, eqb-true, ne_eqb}
use Rattle.meta_lex.specs.Bytes.{is_letter, is_digit}
use Rattle.action_terms.specs.Labels.{is_token, is_token_byte}
use Rattle.source_lex.specs.Forms.{is_name_byte, is_identifier}

-- bytes above the quote
token-byte : (b : ℕ) → 35 ≤ b → b ≤ 126 → is_token_byte b ≡ true
token-byte b low high =
    and_from (nat_le 33 b && nat_le b 126) (not (nat_eq b 34))
    (and_from (nat_le 33 b) (nat_le b 126) (le-leb 33 b (omega (arith, low))) (le-leb b 126 high))
    (not_from_false (nat_eq b 34) (ne_eqb b 34 (λ e. omega (arith, e, low))))

between : (low high b : ℕ) → 35 ≤ low → high ≤ 126 → (nat_le low b && nat_le b high) ≡ true → is_token_byte b ≡ true
between low high b l h e =
    let p = and_parts (nat_le low b) (nat_le b high) e in
    let from : low ≤ b = leb-true low b p.0 in
    let to : b ≤ high = leb-true b high p.1 in
    token-byte b (omega (arith, from, l)) (omega (arith, to, h))

letter-is-token : (b : ℕ) → is_letter b ≡ true → is_token_byte b ≡ true
letter-is-token b h = go (or_cases (nat_le 97 b && nat_le b 122) (nat_le 65 b && nat_le b 90) h)
  where
    go : ((nat_le 97 b && nat_le b 122) ≡ true) ⊎ ((nat_le 65 b && nat_le b 90) ≡ true) → is_token_byte b ≡ true
    go (inl e) = between 97 122 b (omega arith) (omega arith) e
    go (inr e) = between 65 90 b (omega arith) (omega arith) e

name-is-token : (b : ℕ) → is_name_byte b ≡ true → is_token_byte b ≡ true
name-is-token b h = go (or_cases (is_letter b || is_digit b) (b == 95) h)
  where
    one : (is_letter b ≡ true) ⊎ (is_digit b ≡ true) → is_token_byte b ≡ true
    one (inl e) = letter-is-token b e
    one (inr e) = between 48 57 b (omega arith) (omega arith) e

    go : ((is_letter b || is_digit b) ≡ true) ⊎ ((b == 95) ≡ true) → is_token_byte b ≡ true
    go (inl e) = one (or_cases (is_letter b) (is_digit b) e)
    go (inr e) = let is : b ≡ 95 = eqb-true b 95 e in token-byte b (omega (arith, is)) (omega (arith, is))

names-are-tokens : (bytes : List ℕ) → list_all is_name_byte bytes ≡ true → list_all is_token_byte bytes ≡ true
names-are-tokens [] h = refl
names-are-tokens (b ∷ bytes) h =
    let p = and_parts (is_name_byte b) (list_all is_name_byte bytes) h in
    and_from (is_token_byte b) (list_all is_token_byte bytes) (name-is-token b p.0) (names-are-tokens bytes p.1)

pub identifier-is-token : (bytes : List ℕ) → is_identifier bytes ≡ true → is_token bytes ≡ true
identifier-is-token [] h = absurd (let r : false ≡ true = h in cc)
identifier-is-token (b ∷ bytes) h =
    let p = and_parts (is_letter b) (list_all is_name_byte bytes) h in
    and_from (is_token_byte b) (list_all is_token_byte bytes) (letter-is-token b p.0) (names-are-tokens bytes p.1)
