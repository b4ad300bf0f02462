-- Quoted texts and the tokens between their quotes.
use Rattle.std.proofs.Common.{◌≡◌, ℕ, suc, ◌+◌, ◌-◌, ◌<◌, ◌≤◌, true, ◌&&◌, ◌==◌, List, [], ◌∷◌, ◌++◌, length, take, drop, refl, sym, ap, ◌∙◌, arith, eqb-true, nat_lt, length-append, take-append-drop}
use Rattle.std.specs.List.{list_all, prefix_len}
use Rattle.std.proofs.lemmas.Bool.Decides.{nat_tests}
use Rattle.std.proofs.lemmas.List.{length-take-le}
use Rattle.std.proofs.lemmas.List.Sums.{prefix_len-le-length}
use Rattle.std.proofs.lemmas.Bool.{and_parts, and_from}
use Rattle.std.proofs.Math.Seq.{drop-append_seam}
use Rattle.meta_lex.specs.Bytes.{is_quotable}
use Rattle.meta_lex.specs.Forms.{is_quote, is_closed, is_quoted}
use Rattle.action_terms.specs.Labels.{is_token}
use Rattle.action_text.specs.Notes.{unquoted}

quote_alone : (xs : List ℕ) → is_quote xs ≡ true → xs ≡ 34 ∷ []
quote_alone [] h = absurd (cc)
quote_alone (b ∷ []) h = ap (λ c. c ∷ []) (eqb-true b 34 h)
quote_alone (b ∷ c ∷ xs) h = absurd (cc)

all_quotable : (xs : List ℕ) → list_all is_quotable (take (prefix_len is_quotable xs) xs) ≡ true
all_quotable xs = Rattle.meta_lex.proofs.Prefixes.list_all-prefix_len is_quotable xs

some_token : (xs : List ℕ) → 0 < length xs → list_all is_quotable xs ≡ true → is_token xs ≡ true
some_token [] some h = absurd (omega arith)
some_token (b ∷ xs) some h = h

some_first : (n : ℕ) → nat_lt 0 n ≡ true → 0 < n
some_first n h = grind (arith, nat_tests)

-- the rest of a quoted text behind its first quote
record IsInner (rest : List ℕ) : Type 0 where
  inner : List ℕ
  cut : rest ≡ inner ++ 34 ∷ []
  token : is_token inner ≡ true

closed_inner : (rest : List ℕ) → is_closed rest ≡ true → IsInner rest
closed_inner rest h =
    let n : ℕ = prefix_len is_quotable rest in
    let parts = and_parts (nat_lt 0 n) (is_quote (drop n rest)) h in
    let within : n ≤ length rest = prefix_len-le-length is_quotable rest in
    let size : length (take n rest) ≡ n = length-take-le n rest within in
    let some : 0 < n = some_first n parts.0 in
    record {
      inner = take n rest;
      cut = sym (take-append-drop n rest) ∙ ap (λ y. take n rest ++ y) (quote_alone (drop n rest) parts.1);
      token = some_token (take n rest) (omega arith) (all_quotable rest);
    }

unquoted_is : (inner : List ℕ) → unquoted (34 ∷ (inner ++ 34 ∷ [])) ≡ inner
unquoted_is inner =
    let n : length (34 ∷ (inner ++ 34 ∷ [])) - 2 ≡ length inner = omega (arith, length-append inner (34 ∷ [])) in
    rw n (front inner (34 ∷ []))
  where
    front : (xs ys : List ℕ) → take (length xs) (xs ++ ys) ≡ xs
    front [] ys = refl
    front (x ∷ xs) ys = ap (λ y. x ∷ y) (front xs ys)

-- a quoted text is its token between quotes
pub quoted_is : (t : List ℕ) → is_quoted t ≡ true → (t ≡ 34 ∷ (unquoted t ++ 34 ∷ [])) × (is_token (unquoted t) ≡ true)
quoted_is [] h = absurd (cc)
quoted_is (b ∷ rest) h =
    let x = and_parts (b == 34) (is_closed rest) h in
    let y = closed_inner rest x.1 in
    let whole : b ∷ rest ≡ 34 ∷ (y.inner ++ 34 ∷ []) = ap (λ c. c ∷ rest) (eqb-true b 34 x.0) ∙ ap (λ r. 34 ∷ r) y.cut in
    let bare : unquoted (b ∷ rest) ≡ y.inner = ap unquoted whole ∙ unquoted_is y.inner in
    (whole ∙ ap (λ i. 34 ∷ (i ++ 34 ∷ [])) (sym bare), ap is_token bare ∙ y.token)

pub unquoted_back : (token t : List ℕ) → t ≡ 34 ∷ (token ++ 34 ∷ []) → unquoted t ≡ token
unquoted_back token t e = ap unquoted e ∙ unquoted_is token

prefix_whole : (xs ys : List ℕ) → list_all is_quotable xs ≡ true → prefix_len is_quotable (xs ++ 34 ∷ ys) ≡ length xs
prefix_whole [] ys h = refl
prefix_whole (x ∷ xs) ys h =
    let p = and_parts (is_quotable x) (list_all is_quotable xs) h in
    let one : 1 + length xs ≡ suc (length xs) = omega arith in
    rw p.0 (rw (prefix_whole xs ys p.1) one)

token_quotable : (xs : List ℕ) → is_token xs ≡ true → (list_all is_quotable xs ≡ true) × (0 < length xs)
token_quotable [] h = absurd (cc)
token_quotable (x ∷ xs) h = (h, omega arith)

first_some : (n : ℕ) → 0 < n → nat_lt 0 n ≡ true
first_some n h = grind (arith, nat_tests)

-- a token between quotes is a quoted text
pub quoted_of_token : (token t : List ℕ) → is_token token ≡ true → t ≡ 34 ∷ (token ++ 34 ∷ []) → is_quoted t ≡ true
quoted_of_token token t h e =
    let q = token_quotable token h in
    let n : prefix_len is_quotable (token ++ 34 ∷ []) ≡ length token = prefix_whole token [] q.0 in
    rw e (closed_token token (prefix_len is_quotable (token ++ 34 ∷ [])) n q.1)
  where
    closed_token : (xs : List ℕ) (n : ℕ) → n ≡ length xs → 0 < length xs → (nat_lt 0 n && is_quote (drop n (xs ++ 34 ∷ []))) ≡ true
    closed_token xs n same some =
        rw same (and_from (nat_lt 0 (length xs)) (is_quote (drop (length xs) (xs ++ 34 ∷ []))) (first_some (length xs) some) (rw (drop-append_seam xs (34 ∷ [])) refl))
