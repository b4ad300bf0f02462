-- A text has one list of tokens, or else a first bad byte.
use Rattle.std.proofs.Common.{◌≡◌, ℕ, zero, suc, ◌+◌, ◌<◌, ◌≤◌, List, [], ◌∷◌, length, take, drop, refl, sym, ◌∙◌, ap, subst, arith}
use Rattle.std.proofs.lemmas.List.{length-drop}
use Rattle.meta_lex.specs.Tokens.{PlainToken, IsToken, IsTokenAt, HasNone, Reads, AreTokens, IsBadByte, after_blanks}
use Rattle.meta_lex.specs.declared.token.TokenKind.{TokenKind}
use Rattle.meta_lex.proofs.FirstBytes.{kind_of_front, no_form}

same_kind : (xs : List ℕ) (kind other : TokenKind) (n m : ℕ) → IsToken kind xs n → IsToken other xs m → kind ≡ other
same_kind [] kind other zero m t u = absurd (no_form kind t.1)
same_kind [] kind other (suc n) m t u = absurd (no_form kind t.1)
same_kind (b ∷ xs) kind other n m t u = sym (kind_of_front kind b xs n t) ∙ kind_of_front other b xs m u

nothing_there : (xs : List ℕ) (kind : TokenKind) (n : ℕ) → length xs ≡ 0 → IsToken kind xs n → ⊥
nothing_there [] kind zero none t = no_form kind t.1
nothing_there [] kind (suc n) none t = no_form kind t.1
nothing_there (b ∷ xs) kind n none t = absurd (omega arith)

past_the_end : (bytes : List ℕ) (at : ℕ) (t : PlainToken) → at ≡ length bytes → IsTokenAt bytes at t → ⊥
past_the_end bytes at t end here =
    nothing_there (drop at bytes) t.kind (length t.bytes) (omega (arith, length-drop at bytes)) here.2.0

same_parts : (t u : PlainToken) → t.kind ≡ u.kind → t.bytes ≡ u.bytes → t.offset ≡ u.offset → t ≡ u
same_parts t u kinds bytes offsets =
    let P : TokenKind → List ℕ → ℕ → PlainToken = λ k b o. record { kind = k; bytes = b; offset = o } in
    ap (λ k. P k t.bytes t.offset) kinds ∙ ap (λ b. P u.kind b t.offset) bytes ∙ ap (λ o. P u.kind u.bytes o) offsets

-- at a place stands one longest token
pub one_token : (bytes : List ℕ) (at : ℕ) (t u : PlainToken) → IsTokenAt bytes at t → IsTokenAt bytes at u → t ≡ u
one_token bytes at t u here there =
    let size : length t.bytes ≡ length u.bytes =
    ≤_antisym (there.2.1 t.kind (length t.bytes) here.2.0) (here.2.1 u.kind (length u.bytes) there.2.0) in
    same_parts t u
    (same_kind (drop at bytes) t.kind u.kind (length t.bytes) (length u.bytes) here.2.0 there.2.0)
    (here.1 ∙ ap (λ n. take n (drop at bytes)) size ∙ sym there.1)
    (here.0 ∙ sym there.0)
  where
    ≤_antisym : {n m : ℕ} → n ≤ m → m ≤ n → n ≡ m
    ≤_antisym below above = omega arith

one_reading : (bytes : List ℕ) (from to end : ℕ) (ts us : List PlainToken)
    → Reads bytes from ts to → after_blanks bytes to ≡ length bytes
    → Reads bytes from us end → after_blanks bytes end ≡ length bytes → ts ≡ us
one_reading bytes from to end [] [] r whole s done = refl
one_reading bytes from to end [] (u ∷ us) r whole s done =
    absurd (past_the_end bytes (after_blanks bytes from) u (ap (after_blanks bytes) r ∙ whole) s.0)
one_reading bytes from to end (t ∷ ts) [] r whole s done =
    absurd (past_the_end bytes (after_blanks bytes from) t (ap (after_blanks bytes) s ∙ done) r.0)
one_reading bytes from to end (t ∷ ts) (u ∷ us) r whole s done =
    let same : t ≡ u = one_token bytes (after_blanks bytes from) t u r.0 s.0 in
    let rest : Reads bytes (after_blanks bytes from + length t.bytes) us end =
    subst (λ x. Reads bytes (after_blanks bytes from + length x.bytes) us end) (sym same) s.1 in
    let more : ts ≡ us = one_reading bytes (after_blanks bytes from + length t.bytes) to end ts us r.1 whole rest done in
    cc

-- a text has one list of tokens
pub one_token_list : (bytes : List ℕ) (ts us : List PlainToken) → AreTokens bytes ts → AreTokens bytes us → ts ≡ us
one_token_list bytes ts us a b = one_reading bytes 0 a.0 b.0 ts us a.1 a.2 b.1 b.2

reading_or_bad : (bytes : List ℕ) (from to end : ℕ) (ts us : List PlainToken)
    → Reads bytes from ts to → after_blanks bytes to ≡ length bytes
    → Reads bytes from us end → after_blanks bytes end < length bytes → HasNone (drop (after_blanks bytes end) bytes) → ⊥
reading_or_bad bytes from to end [] [] r whole s inside none = absurd (omega (arith, ap (after_blanks bytes) r, ap (after_blanks bytes) s))
reading_or_bad bytes from to end [] (u ∷ us) r whole s inside none =
    past_the_end bytes (after_blanks bytes from) u (ap (after_blanks bytes) r ∙ whole) s.0
reading_or_bad bytes from to end (t ∷ ts) [] r whole s inside none =
    none t.kind (length t.bytes) (subst (λ x. IsToken t.kind (drop (after_blanks bytes x) bytes) (length t.bytes)) s r.0.2.0)
reading_or_bad bytes from to end (t ∷ ts) (u ∷ us) r whole s inside none =
    let same : t ≡ u = one_token bytes (after_blanks bytes from) t u r.0 s.0 in
    let rest : Reads bytes (after_blanks bytes from + length t.bytes) us end =
    subst (λ x. Reads bytes (after_blanks bytes from + length x.bytes) us end) (sym same) s.1 in
    reading_or_bad bytes (after_blanks bytes from + length t.bytes) to end ts us r.1 whole rest inside none

-- a text that has tokens has no bad byte
pub tokens_or_bad_byte : (bytes : List ℕ) (ts : List PlainToken) (at : ℕ) → AreTokens bytes ts → IsBadByte bytes at → ⊥
tokens_or_bad_byte bytes ts at a b =
    reading_or_bad bytes 0 a.0 b.1 ts b.0 a.1 a.2 b.2 (omega (arith, b.3, b.4)) (rw b.3 b.5)
