-- A source has one list of lexemes, or else a first bad byte.
use Rattle.std.proofs.Common.{◌≡◌, ℕ, zero, suc, ◌+◌, ◌<◌, ◌≤◌, true, List, [], ◌∷◌, length, take, drop, refl, sym, ◌∙◌, ap, subst, arith}
use Rattle.std.specs.List.{list_all}
use Rattle.std.proofs.lemmas.Bool.Decides.{nat_tests}
use Rattle.std.proofs.lemmas.List.{length-drop}
use Rattle.meta_lex.specs.Bytes.{is_letter, is_digit}
use Rattle.meta_lex.specs.Tokens.{after_blanks}
use Rattle.meta_lex.proofs.Prefixes.{left}
use Rattle.source_lex.specs.Forms.{is_name_byte, is_identifier, is_numeral}
use Rattle.source_lex.specs.Lexemes.{PlainLexeme, IsOfKind, IsLexeme, IsNext, IsLexemeAt, HasNone, Reads, AreLexemes, IsBadByte}
use Rattle.source_lex.specs.declared.lexeme.LexKind.{LexKind}
use Rattle.source_lex.specs.declared.lexeme.LexKind.TheVariants.{Literal, Identifier, Numeral}

-- no text is both an identifier and a numeral
no_both : (bytes : List ℕ) → is_identifier bytes ≡ true → is_numeral bytes ≡ true → ⊥
no_both [] name number = cc
no_both (b ∷ bytes) name number = apart b (left (is_letter b) (list_all is_name_byte bytes) name) (left (is_digit b) (list_all is_digit bytes) number)
  where
    apart : (b : ℕ) → is_letter b ≡ true → is_digit b ≡ true → ⊥
    apart b l d = grind (arith, nat_tests)

same_kind : (literals : List (List ℕ)) (bytes : List ℕ) (kind other : LexKind) (n : ℕ) → IsNext literals bytes kind n → IsNext literals bytes other n → kind ≡ other
same_kind literals bytes (Literal k) other n t u = sym (u.literal k t.here)
same_kind literals bytes Identifier (Literal k) n t u = t.literal k u.here
same_kind literals bytes Identifier Identifier n t u = refl
same_kind literals bytes Identifier Numeral n t u = absurd (no_both (take n bytes) t.here.1 u.here.1)
same_kind literals bytes Numeral (Literal k) n t u = t.literal k u.here
same_kind literals bytes Numeral Identifier n t u = absurd (no_both (take n bytes) u.here.1 t.here.1)
same_kind literals bytes Numeral Numeral n t u = refl

no_empty : (literals : List (List ℕ)) (kind : LexKind) → IsOfKind literals kind [] → ⊥
no_empty literals (Literal k) of = of.1 refl
no_empty literals Identifier of = cc
no_empty literals Numeral of = cc

nothing_there : (literals : List (List ℕ)) (xs : List ℕ) (kind : LexKind) (n : ℕ) → length xs ≡ 0 → IsLexeme literals kind xs n → ⊥
nothing_there literals [] kind zero none t = no_empty literals kind t.1
nothing_there literals [] kind (suc n) none t = absurd (omega (arith, t.0))
nothing_there literals (b ∷ xs) kind n none t = absurd (omega arith)

past_the_end : (literals : List (List ℕ)) (bytes : List ℕ) (at : ℕ) (l : PlainLexeme) → at ≡ length bytes → IsLexemeAt literals bytes at l → ⊥
past_the_end literals bytes at l end here =
    nothing_there literals (drop at bytes) l.kind (length l.bytes) (omega (arith, length-drop at bytes)) here.2.here

same_parts : (t u : PlainLexeme) → t.kind ≡ u.kind → t.bytes ≡ u.bytes → t.offset ≡ u.offset → t ≡ u
same_parts t u kinds bytes offsets =
    let P : LexKind → List ℕ → ℕ → PlainLexeme = λ k b o. record { kind = k; bytes = b; offset = o } in
    ap (λ k. P k t.bytes t.offset) kinds ∙ ap (λ b. P u.kind b t.offset) bytes ∙ ap (λ o. P u.kind u.bytes o) offsets

-- at a place stands one lexeme
one_lexeme : (literals : List (List ℕ)) (bytes : List ℕ) (at : ℕ) (t u : PlainLexeme) → IsLexemeAt literals bytes at t → IsLexemeAt literals bytes at u → t ≡ u
one_lexeme literals bytes at t u here there =
    let size : length t.bytes ≡ length u.bytes =
    ≤_antisym (there.2.longest t.kind (length t.bytes) here.2.here) (here.2.longest u.kind (length u.bytes) there.2.here) in
    same_parts t u
    (same_kind literals (drop at bytes) t.kind u.kind (length u.bytes) (subst (IsNext literals (drop at bytes) t.kind) size here.2) there.2)
    (here.1 ∙ ap (λ n. take n (drop at bytes)) size ∙ sym there.1)
    (here.0 ∙ sym there.0)
  where
    ≤_antisym : {n m : ℕ} → n ≤ m → m ≤ n → n ≡ m
    ≤_antisym below above = omega arith

one_scan : (literals : List (List ℕ)) (bytes : List ℕ) (from to end : ℕ) (ts us : List PlainLexeme)
    → Reads literals bytes from ts to → after_blanks bytes to ≡ length bytes
    → Reads literals bytes from us end → after_blanks bytes end ≡ length bytes → ts ≡ us
one_scan literals bytes from to end [] [] r whole s done = refl
one_scan literals bytes from to end [] (u ∷ us) r whole s done =
    absurd (past_the_end literals bytes (after_blanks bytes from) u (ap (after_blanks bytes) r ∙ whole) s.0)
one_scan literals bytes from to end (t ∷ ts) [] r whole s done =
    absurd (past_the_end literals bytes (after_blanks bytes from) t (ap (after_blanks bytes) s ∙ done) r.0)
one_scan literals bytes from to end (t ∷ ts) (u ∷ us) r whole s done =
    let same : t ≡ u = one_lexeme literals bytes (after_blanks bytes from) t u r.0 s.0 in
    let rest : Reads literals bytes (after_blanks bytes from + length t.bytes) us end =
    subst (λ (x : PlainLexeme). Reads literals bytes (after_blanks bytes from + length x.bytes) us end) (sym same) s.1 in
    let more : ts ≡ us = one_scan literals bytes (after_blanks bytes from + length t.bytes) to end ts us r.1 whole rest done in
    cc

-- a source has one list of lexemes
pub one_list : (literals : List (List ℕ)) (bytes : List ℕ) (ts us : List PlainLexeme) → AreLexemes literals bytes ts → AreLexemes literals bytes us → ts ≡ us
one_list literals bytes ts us a b = one_scan literals bytes 0 a.0 b.0 ts us a.1 a.2 b.1 b.2

scan_or_bad : (literals : List (List ℕ)) (bytes : List ℕ) (from to end : ℕ) (ts us : List PlainLexeme)
    → Reads literals bytes from ts to → after_blanks bytes to ≡ length bytes
    → Reads literals bytes from us end → after_blanks bytes end < length bytes → HasNone literals (drop (after_blanks bytes end) bytes) → ⊥
scan_or_bad literals bytes from to end [] [] r whole s inside none = absurd (omega (arith, ap (after_blanks bytes) r, ap (after_blanks bytes) s))
scan_or_bad literals bytes from to end [] (u ∷ us) r whole s inside none =
    past_the_end literals bytes (after_blanks bytes from) u (ap (after_blanks bytes) r ∙ whole) s.0
scan_or_bad literals bytes from to end (t ∷ ts) [] r whole s inside none =
    none t.kind (length t.bytes) (subst (λ x. IsLexeme literals t.kind (drop (after_blanks bytes x) bytes) (length t.bytes)) s r.0.2.here)
scan_or_bad literals bytes from to end (t ∷ ts) (u ∷ us) r whole s inside none =
    let same : t ≡ u = one_lexeme literals bytes (after_blanks bytes from) t u r.0 s.0 in
    let rest : Reads literals bytes (after_blanks bytes from + length t.bytes) us end =
    subst (λ (x : PlainLexeme). Reads literals bytes (after_blanks bytes from + length x.bytes) us end) (sym same) s.1 in
    scan_or_bad literals bytes (after_blanks bytes from + length t.bytes) to end ts us r.1 whole rest inside none

-- a source that has lexemes has no bad byte
pub lexemes_or_bad_byte : (literals : List (List ℕ)) (bytes : List ℕ) (ts : List PlainLexeme) (at : ℕ) → AreLexemes literals bytes ts → IsBadByte literals bytes at → ⊥
lexemes_or_bad_byte literals bytes ts at a b =
    scan_or_bad literals bytes 0 a.0 b.1 ts b.0 a.1 a.2 b.2 (omega (arith, b.3, b.4)) (rw b.3 b.5)
