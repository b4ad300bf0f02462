-- Spaced tokens are read back.
use Rattle.std.proofs.Common.{◌≡◌, ◌⊎◌, inl, inr, ℕ, ◌+◌, Bool, true, false, ◌&&◌, ◌||◌, List, [], ◌∷◌, ◌++◌, length, take, drop, refl, sym, ap, subst, ◌∙◌, arith, append_assoc, append-nil, length-append, if◌then◌else◌}
use Rattle.std.specs.List.{list_any, prefix_len}
use Rattle.std.proofs.lemmas.Bool.{or_cases}
use Rattle.std.proofs.Math.Seq.{drop-append_seam}
use Rattle.action_text.proofs.Tests.{and_left}
use Rattle.meta_lex.specs.Bytes.{is_blank}
use Rattle.meta_lex.specs.Tokens.{PlainToken, IsLongest, IsTokenAt, Reads, AreTokens, after_blanks}
use Rattle.action_text.specs.Shapes.{open_paren, close_paren, comma}
use Rattle.meta_terms.specs.Words.{same_bytes}
use Rattle.action_text.specs.Canonical.{is_joined, spaced, function_words}
use Rattle.action_text.specs.Answers.{token_bytes}
use Rattle.action_text.proofs.Words.{same_is}
use Rattle.action_text.proofs.PrintedTokens.{is_printable, is_mark, bounds, kind_front, IsBounded, front_longest, no_blank_front}

-- each token can be printed
abbrev pub ArePrintable : List (List ℕ) → Type 0
ArePrintable [] = Unit {0}
ArePrintable (t ∷ ts) = (is_printable t ≡ true) × ArePrintable ts

-- the bytes between two tokens
abbrev gap : List ℕ → List ℕ → List ℕ
gap t u = if is_joined t u then [] else 32 ∷ []

-- the tokens where they stand
abbrev pub placed : ℕ → List (List ℕ) → List PlainToken
placed at [] = []
placed at (t ∷ []) = record { kind = kind_front t; bytes = t; offset = at } ∷ []
placed at (t ∷ u ∷ ts) = record { kind = kind_front t; bytes = t; offset = at } ∷ placed ((at + length t) + length (gap t u)) (u ∷ ts)

pub placed_bytes : (at : ℕ) (ts : List (List ℕ)) → token_bytes (placed at ts) ≡ ts
placed_bytes at [] = refl
placed_bytes at (t ∷ []) = refl
placed_bytes at (t ∷ u ∷ ts) = ap (λ y. t ∷ y) (placed_bytes ((at + length t) + length (gap t u)) (u ∷ ts))

take_front : (xs ys : List ℕ) → take (length xs) (xs ++ ys) ≡ xs
take_front [] ys = refl
take_front (x ∷ xs) ys = ap (λ y. x ∷ y) (take_front xs ys)

-- what stands behind a token doesn't go it on
bounded_by : (t u rest : List ℕ) (joined : Bool) → is_joined t u ≡ joined → IsBounded t ((if joined then [] else 32 ∷ []) ++ (u ++ rest))
bounded_by t u rest false h = inl refl
bounded_by t u rest true h =
    elim (or_cases (same_bytes t open_paren || same_bytes u close_paren || same_bytes u comma) (same_bytes u open_paren && list_any (same_bytes t) function_words) h) [
      | inl a ↦ elim (or_cases (same_bytes t open_paren || same_bytes u close_paren) (same_bytes u comma) a) [
        | inl b ↦ elim (or_cases (same_bytes t open_paren) (same_bytes u close_paren) b) [
          | inl o ↦ inr (ap is_mark (same_is t open_paren o))
          | inr c ↦ inl (ap (λ y. bounds (y ++ rest)) (same_is u close_paren c))
        ]
        | inr m ↦ inl (ap (λ y. bounds (y ++ rest)) (same_is u comma m))
      ]
      | inr f ↦ inl (ap (λ y. bounds (y ++ rest)) (same_is u open_paren (and_left (same_bytes u open_paren) (list_any (same_bytes t) function_words) f)))
    ]

-- no blank, or one
abbrev IsGap : List ℕ → Type 0
IsGap g = (g ≡ []) ⊎ (g ≡ 32 ∷ [])

gap_is : (t u : List ℕ) (joined : Bool) → IsGap (if joined then [] else 32 ∷ [])
gap_is t u true = inl refl
gap_is t u false = inr refl

blanks_of : (g t rest : List ℕ) → IsGap g → is_printable t ≡ true → prefix_len is_blank (g ++ (t ++ rest)) ≡ length g
blanks_of g t rest (inl e) h = subst (λ y. prefix_len is_blank (y ++ (t ++ rest)) ≡ length y) (sym e) (no_blank_front t rest h)
blanks_of g t rest (inr e) h = subst (λ y. prefix_len is_blank (y ++ (t ++ rest)) ≡ length y) (sym e) (one_blank (no_blank_front t rest h))
  where
    one_blank : prefix_len is_blank (t ++ rest) ≡ 0 → 1 + prefix_len is_blank (t ++ rest) ≡ 1
    one_blank z = omega (arith, z)

-- behind a gap stands the next token
token_there : (bytes before g t rest : List ℕ) → bytes ≡ before ++ (g ++ (t ++ rest)) → IsGap g → is_printable t ≡ true → IsBounded t rest
    → (after_blanks bytes (length before) ≡ length before + length g) × IsTokenAt bytes (length before + length g) (record { kind = kind_front t; bytes = t; offset = length before + length g })
token_there bytes before g t rest e gapped h b =
    let from : drop (length before) bytes ≡ g ++ (t ++ rest) = ap (drop (length before)) e ∙ drop-append_seam before (g ++ (t ++ rest)) in
    let whole : bytes ≡ (before ++ g) ++ (t ++ rest) = e ∙ sym (append_assoc before g (t ++ rest)) in
    let place : length before + length g ≡ length (before ++ g) = sym (length-append before g) in
    let there : drop (length before + length g) bytes ≡ t ++ rest = ap (λ n. drop n bytes) place ∙ ap (drop (length (before ++ g))) whole ∙ drop-append_seam (before ++ g) (t ++ rest) in (
      ap (λ y. length before + prefix_len is_blank y) from ∙ ap (λ n. length before + n) (blanks_of g t rest gapped h),
      (refl, sym (ap (take (length t)) there ∙ take_front t rest), subst (λ y. IsLongest (kind_front t) y (length t)) (sym there) (front_longest t rest h b)),
    )

regroup : (a b c d : List ℕ) → a ++ (b ++ (c ++ d)) ≡ (a ++ (b ++ c)) ++ d
regroup a b c d = simp append_assoc

shift : (a b c : ℕ) → a + (b + c) ≡ (a + b) + c
shift a b c = omega arith

bounded_next : (t u : List ℕ) (ts : List (List ℕ)) → IsBounded t (gap t u ++ spaced (u ∷ ts))
bounded_next t u [] = subst (λ y. IsBounded t (gap t u ++ y)) (append-nil u) (bounded_by t u [] (is_joined t u) refl)
bounded_next t u (v ∷ ts) = bounded_by t u (gap u v ++ spaced (v ∷ ts)) (is_joined t u) refl

-- the tokens are read from the place before a gap to the end
reads_spaced : (bytes before g t : List ℕ) (ts : List (List ℕ)) → bytes ≡ before ++ (g ++ spaced (t ∷ ts)) → IsGap g → ArePrintable (t ∷ ts)
    → Reads bytes (length before) (placed (length before + length g) (t ∷ ts)) (length bytes)
reads_spaced bytes before g t [] e gapped h =
    let whole : bytes ≡ before ++ (g ++ (t ++ [])) = e ∙ ap (λ y. before ++ (g ++ y)) (sym (append-nil t)) in
    let x = token_there bytes before g t [] whole gapped h.0 (inl refl) in
    let size : (length before + length g) + length t ≡ length bytes =
    (let a : length (before ++ (g ++ t)) ≡ length before + (length g + length t) = length-append before (g ++ t) ∙ ap (λ n. length before + n) (length-append g t) in
    let b : length bytes ≡ length (before ++ (g ++ t)) = ap length e in omega arith) in
    subst (λ n. IsTokenAt bytes n (record { kind = kind_front t; bytes = t; offset = length before + length g }) × (n + length t ≡ length bytes)) (sym x.0) (x.1, size)
reads_spaced bytes before g t (u ∷ ts) e gapped h =
    let rest : List ℕ = gap t u ++ spaced (u ∷ ts) in
    let next : IsBounded t (gap t u ++ spaced (u ∷ ts)) = bounded_next t u ts in
    let x = token_there bytes before g t (gap t u ++ spaced (u ∷ ts)) e gapped h.0 next in
    let before_next : List ℕ = before ++ (g ++ t) in
    let whole : bytes ≡ (before ++ (g ++ t)) ++ (gap t u ++ spaced (u ∷ ts)) = e ∙ regroup before g t (gap t u ++ spaced (u ∷ ts)) in
    let more = reads_spaced bytes (before ++ (g ++ t)) (gap t u) u ts whole (gap_is t u (is_joined t u)) h.1 in
    let place : length (before ++ (g ++ t)) ≡ (length before + length g) + length t =
    length-append before (g ++ t) ∙ ap (λ n. length before + n) (length-append g t) ∙ shift (length before) (length g) (length t) in
    let onward : Reads bytes ((length before + length g) + length t) (placed (((length before + length g) + length t) + length (gap t u)) (u ∷ ts)) (length bytes) =
    subst (λ n. Reads bytes n (placed (n + length (gap t u)) (u ∷ ts)) (length bytes)) place more in
    subst (λ n. IsTokenAt bytes n (record { kind = kind_front t; bytes = t; offset = length before + length g }) × Reads bytes (n + length t) (placed (((length before + length g) + length t) + length (gap t u)) (u ∷ ts)) (length bytes))
    (sym x.0) (x.1, onward)

-- printable tokens, spaced, are a text of these tokens
pub spaced_are_tokens : (ts : List (List ℕ)) → ArePrintable ts → AreTokens (spaced ts) (placed 0 ts)
spaced_are_tokens [] h = (0, refl, refl)
spaced_are_tokens (t ∷ ts) h =
    (length (spaced (t ∷ ts)), reads_spaced (spaced (t ∷ ts)) [] [] t ts refl (inl refl) h, end_of (spaced (t ∷ ts)))
  where
    past : (xs : List ℕ) → drop (length xs) xs ≡ []
    past [] = refl
    past (x ∷ xs) = past xs

    plus_zero : (n : ℕ) → n + 0 ≡ n
    plus_zero n = omega arith

    end_of : (bytes : List ℕ) → after_blanks bytes (length bytes) ≡ length bytes
    end_of bytes = ap (λ y. length bytes + prefix_len is_blank y) (past bytes) ∙ plus_zero (length bytes)
