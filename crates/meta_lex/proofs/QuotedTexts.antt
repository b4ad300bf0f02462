-- Quoted texts at the front.
use Rattle.std.proofs.Common.{◌≡◌, ℕ, zero, suc, ◌+◌, ◌<◌, ◌≤◌, true, false, List, [], ◌∷◌, length, take, drop, get_or, refl, sym, ◌∙◌, ap, arith}
use Rattle.std.specs.Prelude.{nat_lt}
use Rattle.std.specs.List.{prefix_len}
use Rattle.std.proofs.lemmas.Bool.Decides.{nat_tests}
use Rattle.std.proofs.lemmas.Bool.{eqb-true, eq-eqb}
use Rattle.std.proofs.lemmas.List.{length-take-le, length-drop, get_or-drop, get_or-take}
use Rattle.std.proofs.lemmas.List.Sums.{prefix_len_is, prefix_len_passes}
use Rattle.meta_lex.specs.Bytes.{is_quotable}
use Rattle.meta_lex.specs.Forms.{is_quote, is_closed, kind_of}
use Rattle.meta_lex.specs.Tokens.{IsToken, IsLongest, HasNone}
use Rattle.meta_lex.specs.declared.token.TokenKind.TheVariants.{Quoted}
use Rattle.meta_lex.proofs.Prefixes.{both, left, right}
use Rattle.meta_lex.proofs.FirstBytes.{longest_of_kind, none_of_kind}

-- a quote stands behind the bytes at the front that may stand between quotes, of which there are some
pub record IsEnded (rest : List ℕ) : Type 0 where
  pub some : 0 < prefix_len is_quotable rest
  pub within : prefix_len is_quotable rest < length rest
  pub quote : get_or rest (prefix_len is_quotable rest) 0 ≡ 34

quote_alone : (xs : List ℕ) → is_quote xs ≡ true → (length xs ≡ 1) × (get_or xs 0 0 ≡ 34)
quote_alone [] h = cc
quote_alone (b ∷ []) h = (refl, eqb-true b 34 h)
quote_alone (b ∷ c ∷ xs) h = cc

alone_quote : (xs : List ℕ) → length xs ≡ 1 → get_or xs 0 0 ≡ 34 → is_quote xs ≡ true
alone_quote [] one h = cc
alone_quote (b ∷ []) one h = eq-eqb b 34 h
alone_quote (b ∷ c ∷ xs) one h = absurd (omega arith)

quote_stops : (b : ℕ) → b ≡ 34 → is_quotable b ≡ false
quote_stops b h = rw h refl

-- where a quoted text is cut behind its first quote, its inner bytes are those at the front of all that follows
closed_cut : (rest : List ℕ) (m : ℕ) → m ≤ length rest → is_closed (take m rest) ≡ true
    → IsEnded rest × (m ≡ prefix_len is_quotable rest + 1)
closed_cut rest m short h =
    let inner : ℕ = prefix_len is_quotable (take m rest) in
    let size : length (take m rest) ≡ m = length-take-le m rest short in
    let alone : (length (drop inner (take m rest)) ≡ 1) × (get_or (drop inner (take m rest)) 0 0 ≡ 34) =
    quote_alone (drop inner (take m rest)) (right (nat_lt 0 inner) (is_quote (drop inner (take m rest))) h) in
    let last : inner + 1 ≡ m = omega (arith, alone.0, length-drop inner (take m rest), size) in
    let at : get_or rest inner 0 ≡ 34 = closed_at rest m inner alone.1 (omega arith) in
    let same : prefix_len is_quotable rest ≡ inner =
    prefix_len_is is_quotable rest inner 0 (omega arith)
    (λ k below. rw (sym (get_or-take m rest k 0 (omega arith))) (prefix_len_passes is_quotable (take m rest) k 0 below))
    (λ _. quote_stops (get_or rest inner 0) at) in
    (record { some = rw same (first_some inner (left (nat_lt 0 inner) (is_quote (drop inner (take m rest))) h)); within = omega arith; quote = rw same at }, omega arith)
  where
    first_some : (n : ℕ) → nat_lt 0 n ≡ true → 0 < n
    first_some n h = grind (arith, nat_tests)

    closed_at : (rest : List ℕ) (m inner : ℕ) → get_or (drop inner (take m rest)) 0 0 ≡ 34 → inner < m → get_or rest inner 0 ≡ 34
    closed_at rest m inner h below =
        sym (get_or-take m rest inner 0 below) ∙ ap (λ k. get_or (take m rest) k 0) (omega arith) ∙ sym (get_or-drop inner (take m rest) 0 0) ∙ h

quoted_bound : (rest : List ℕ) (m : ℕ) → IsToken Quoted (34 ∷ rest) m → m ≤ prefix_len is_quotable rest + 2
quoted_bound rest zero t = omega arith
quoted_bound rest (suc m) t = omega (arith, (closed_cut rest m (omega (arith, t.0)) t.1).1)

cut_closed : (rest : List ℕ) → IsEnded rest → is_closed (take (prefix_len is_quotable rest + 1) rest) ≡ true
cut_closed rest ended =
    let count : ℕ = prefix_len is_quotable rest in
    let cut : List ℕ = take (count + 1) rest in
    let size : length cut ≡ count + 1 = length-take-le (count + 1) rest (omega (arith, ended.within)) in
    let quote : get_or cut count 0 ≡ 34 = get_or-take (count + 1) rest count 0 (omega arith) ∙ ended.quote in
    let same : prefix_len is_quotable cut ≡ count =
    prefix_len_is is_quotable cut count 0 (omega arith)
    (λ k below. rw (get_or-take (count + 1) rest k 0 (omega arith)) (prefix_len_passes is_quotable rest k 0 below))
    (λ _. quote_stops (get_or cut count 0) quote) in
    rw same (both (nat_lt 0 count) (is_quote (drop count cut)) (some_first count ended.some)
    (alone_quote (drop count cut) (omega (arith, length-drop count cut)) (get_or-drop count cut 0 0 ∙ ap (λ k. get_or cut k 0) (omega arith) ∙ quote)))
  where
    some_first : (n : ℕ) → 0 < n → nat_lt 0 n ≡ true
    some_first n h = grind (arith, nat_tests)

-- a quoted text ends at the first quote behind its first one
pub quoted_longest : (rest : List ℕ) → IsEnded rest → IsLongest Quoted (34 ∷ rest) (prefix_len is_quotable rest + 2)
quoted_longest rest ended =
    longest_of_kind Quoted 34 rest (prefix_len is_quotable rest + 2) (omega (arith, ended.within), quoted_here rest (prefix_len is_quotable rest) (cut_closed rest ended)) (quoted_bound rest)
  where
    quoted_here : (rest : List ℕ) (count : ℕ) → is_closed (take (count + 1) rest) ≡ true → Rattle.meta_lex.specs.Forms.is_quoted (take (count + 2) (34 ∷ rest)) ≡ true
    quoted_here rest count h = let e : count + 2 ≡ suc (count + 1) = omega arith in rw e h

no_quoted : (rest : List ℕ) → (IsEnded rest → ⊥) → (m : ℕ) → IsToken Quoted (34 ∷ rest) m → ⊥
no_quoted rest unended zero t = cc
no_quoted rest unended (suc m) t = unended (closed_cut rest m (omega (arith, t.0)) t.1).0

-- a quote begins no token where no quoted text is ended
pub quoted_none : (rest : List ℕ) → (IsEnded rest → ⊥) → HasNone (34 ∷ rest)
quoted_none rest unended = none_of_kind Quoted 34 rest refl (no_quoted rest unended)
