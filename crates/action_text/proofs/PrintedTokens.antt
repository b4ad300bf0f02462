-- Tokens that can be printed are read back, each as the longest one at its place.
use Rattle.std.proofs.Common.{◌≡◌, ◌⊎◌, inl, inr, ℕ, suc, ◌+◌, ◌<◌, Bool, true, false, ◌||◌, not, ◌==◌, List, [], ◌∷◌, ◌++◌, length, get_or, refl, sym, ap, subst, ◌∙◌, arith, append_assoc, length-append, eqb-true, cond, if◌then◌else◌}
use Rattle.std.specs.List.{list_all, prefix_len}
use Rattle.std.proofs.lemmas.Bool.Decides.{nat_tests}
use Rattle.std.proofs.lemmas.Bool.{or_cases}
use Rattle.action_text.proofs.Tests.{and_left, and_right}
use Rattle.meta_lex.specs.Bytes.{is_letter, is_digit, is_word_byte, is_quotable, is_blank, is_single}
use Rattle.meta_lex.specs.Forms.{is_word, is_digits, is_number, is_closed, is_quoted, kind_of}
use Rattle.meta_lex.specs.Tokens.{IsLongest}
use Rattle.meta_lex.specs.declared.token.TokenKind.{TokenKind}
use Rattle.meta_lex.specs.declared.token.TokenKind.TheVariants.{Word, Number, Quoted, Symbol}
use Rattle.meta_lex.proofs.Longest.{word_longest, signed_longest, unsigned_longest}
use Rattle.meta_lex.proofs.QuotedTexts.{IsEnded, quoted_longest}
use Rattle.meta_lex.proofs.Symbols.{single_longest}
use Rattle.meta_lex.proofs.FirstBytes.{kind_of_front}
use Rattle.action_text.proofs.QuotedTokens.{quoted_is}

-- one symbol of one byte
abbrev pub is_mark : List ℕ → Bool
is_mark [] = false
is_mark (b ∷ []) = is_single b
is_mark (b ∷ c ∷ bytes) = false

-- a word, a number, a quoted text, or a symbol of one byte
abbrev pub is_printable : List ℕ → Bool
is_printable t = is_word t || (is_number t || (is_quoted t || is_mark t))

-- a byte that goes no word and no number on
abbrev pub bounds : List ℕ → Bool
bounds [] = true
bounds (b ∷ bytes) = not (is_word_byte b)

prefix_stops : (p : ℕ → Bool) (xs ys : List ℕ) → list_all p xs ≡ true → prefix_len p ys ≡ 0 → prefix_len p (xs ++ ys) ≡ length xs
prefix_stops p [] ys h e = e
prefix_stops p (x ∷ xs) ys h e =
    let one : 1 + length xs ≡ suc (length xs) = omega arith in
    rw (and_left (p x) (list_all p xs) h) (rw (prefix_stops p xs ys (and_right (p x) (list_all p xs) h) e) one)

word_stops : (ys : List ℕ) → bounds ys ≡ true → prefix_len is_word_byte ys ≡ 0
word_stops [] h = refl
word_stops (b ∷ ys) h = by_byte (is_word_byte b) h
  where
    by_byte : (x : Bool) → not x ≡ true → cond x (1 + prefix_len is_word_byte ys) 0 ≡ 0
    by_byte true h = absurd (cc)
    by_byte false h = refl

digit_in_word : (b : ℕ) → is_digit b ≡ true → is_word_byte b ≡ true
digit_in_word b h = grind (arith, nat_tests)

digit_stops : (ys : List ℕ) → bounds ys ≡ true → prefix_len is_digit ys ≡ 0
digit_stops [] h = refl
digit_stops (b ∷ ys) h = by_byte (is_digit b) refl
  where
    by_byte : (x : Bool) → is_digit b ≡ x → cond x (1 + prefix_len is_digit ys) 0 ≡ 0
    by_byte true e = let never : true ≡ false = sym h ∙ ap not (digit_in_word b e) in absurd (cc)
    by_byte false e = refl

same_longest : (kind : TokenKind) (bytes : List ℕ) (n m : ℕ) → n ≡ m → IsLongest kind bytes n → IsLongest kind bytes m
same_longest kind bytes n m e h = subst (λ k. IsLongest kind bytes k) e h

-- a word stands at the front, up to its bound
word_front : (t rest : List ℕ) → is_word t ≡ true → bounds rest ≡ true → IsLongest Word (t ++ rest) (length t)
word_front [] rest h e = absurd (cc)
word_front (b ∷ bs) rest h e =
    same_longest Word (b ∷ (bs ++ rest)) (1 + prefix_len is_word_byte (bs ++ rest)) (suc (length bs))
    (ap (λ n. 1 + n) (prefix_stops is_word_byte bs rest (and_right (is_letter b) (list_all is_word_byte bs) h) (word_stops rest e)) ∙ (let e : 1 + length bs ≡ suc (length bs) = omega arith in e))
    (word_longest b (bs ++ rest) (and_left (is_letter b) (list_all is_word_byte bs) h))

digits_all : (bs : List ℕ) → is_digits bs ≡ true → (list_all is_digit bs ≡ true) × (0 < length bs)
digits_all [] h = absurd (cc)
digits_all (b ∷ bs) h = (h, omega arith)

digit_no_hyphen : (b : ℕ) → is_digit b ≡ true → b ≡ 45 → ⊥
digit_no_hyphen b h e = let never : is_digit 45 ≡ true = ap is_digit (sym e) ∙ h in cc

digit_number : (b : ℕ) → is_digit b ≡ true → kind_of b ≡ Number
digit_number b h = grind (arith, nat_tests)

number_front : (t rest : List ℕ) → is_number t ≡ true → bounds rest ≡ true → IsLongest Number (t ++ rest) (length t)
number_front [] rest h e = absurd (cc)
number_front (b ∷ bs) rest h e = by_hyphen (b == 45) refl h
  where
    by_hyphen : (x : Bool) → (b == 45) ≡ x → (if x then is_digits bs else is_digits (b ∷ bs)) ≡ true → IsLongest Number (b ∷ (bs ++ rest)) (suc (length bs))
    by_hyphen true y h =
        let d = digits_all bs h in
        let n : prefix_len is_digit (bs ++ rest) ≡ length bs = prefix_stops is_digit bs rest d.0 (digit_stops rest e) in
        same_longest Number (b ∷ (bs ++ rest)) (1 + prefix_len is_digit (bs ++ rest)) (suc (length bs)) (ap (λ n. 1 + n) n ∙ (let e : 1 + length bs ≡ suc (length bs) = omega arith in e))
        (signed_longest b (bs ++ rest) (eqb-true b 45 y) (let some = d.1 in omega (arith, n, some)))
    by_hyphen false y h =
        let first : is_digit b ≡ true = and_left (is_digit b) (list_all is_digit bs) h in
        let n : prefix_len is_digit (bs ++ rest) ≡ length bs = prefix_stops is_digit bs rest (and_right (is_digit b) (list_all is_digit bs) h) (digit_stops rest e) in
        same_longest Number (b ∷ (bs ++ rest)) (1 + prefix_len is_digit (bs ++ rest)) (suc (length bs)) (ap (λ n. 1 + n) n ∙ (let e : 1 + length bs ≡ suc (length bs) = omega arith in e))
        (unsigned_longest b (bs ++ rest) (digit_number b first) (digit_no_hyphen b first))

token_inner : (xs : List ℕ) → Rattle.action_terms.specs.Labels.is_token xs ≡ true → (list_all is_quotable xs ≡ true) × (0 < length xs)
token_inner [] h = absurd (cc)
token_inner (x ∷ xs) h = (h, omega arith)

get_or_behind : (xs ys : List ℕ) (y : ℕ) → get_or (xs ++ y ∷ ys) (length xs) 0 ≡ y
get_or_behind [] ys y = refl
get_or_behind (x ∷ xs) ys y = get_or_behind xs ys y

two_more : (xs : List ℕ) → length xs + 2 ≡ length (34 ∷ (xs ++ 34 ∷ []))
two_more xs = omega (arith, length-append xs (34 ∷ []))

quoted_front : (t rest : List ℕ) → is_quoted t ≡ true → IsLongest Quoted (t ++ rest) (length t)
quoted_front t rest h =
    let q = quoted_is t h in
    let inner : List ℕ = Rattle.action_text.specs.Notes.unquoted t in
    let k = token_inner inner q.1 in
    let n : prefix_len is_quotable (inner ++ 34 ∷ rest) ≡ length inner = prefix_stops is_quotable inner (34 ∷ rest) k.0 refl in
    let size : length (inner ++ 34 ∷ rest) ≡ length inner + suc (length rest) = length-append inner (34 ∷ rest) in
    let ended : IsEnded (inner ++ 34 ∷ rest) = record {
      some = let s = k.1 in omega (arith, n, s);
      within = omega (arith, n, size);
      quote = ap (λ m. get_or (inner ++ 34 ∷ rest) m 0) n ∙ get_or_behind inner rest 34;
    } in
    let whole : t ++ rest ≡ 34 ∷ (inner ++ 34 ∷ rest) = ap (λ y. y ++ rest) q.0 ∙ ap (λ y. 34 ∷ y) (append_assoc inner (34 ∷ []) rest) in
    let wide : prefix_len is_quotable (inner ++ 34 ∷ rest) + 2 ≡ length t = ap (λ m. m + 2) n ∙ two_more inner ∙ sym (ap length q.0) in
    subst (λ y. IsLongest Quoted y (length t)) (sym whole) (same_longest Quoted (34 ∷ (inner ++ 34 ∷ rest)) (prefix_len is_quotable (inner ++ 34 ∷ rest) + 2) (length t) wide (quoted_longest (inner ++ 34 ∷ rest) ended))

mark_front : (t rest : List ℕ) → is_mark t ≡ true → IsLongest Symbol (t ++ rest) (length t)
mark_front [] rest h = absurd (cc)
mark_front (b ∷ []) rest h = single_longest b rest h
mark_front (b ∷ c ∷ bs) rest h = absurd (cc)

-- the kind of a token, by its first byte
abbrev pub kind_front : List ℕ → TokenKind
kind_front t = kind_of (get_or t 0 0)

by_first : (kind : TokenKind) (t rest : List ℕ) → 0 < length t → IsLongest kind (t ++ rest) (length t) → IsLongest (kind_front t) (t ++ rest) (length t)
by_first kind [] rest some h = absurd (omega arith)
by_first kind (b ∷ bs) rest some h = subst (λ k. IsLongest k (b ∷ (bs ++ rest)) (suc (length bs))) (sym (kind_of_front kind b (bs ++ rest) (suc (length bs)) h.0)) h

-- what follows a token doesn't go it on
abbrev pub IsBounded : List ℕ → List ℕ → Type 0
IsBounded t rest = (bounds rest ≡ true) ⊎ (is_mark t ≡ true)

-- a printable token is the longest one at its place
pub front_longest : (t rest : List ℕ) → is_printable t ≡ true → IsBounded t rest → IsLongest (kind_front t) (t ++ rest) (length t)
front_longest [] rest h b = absurd (cc)
front_longest (x ∷ xs) rest h (inr mark) = by_first Symbol (x ∷ xs) rest (omega arith) (mark_front (x ∷ xs) rest mark)
front_longest (x ∷ xs) rest h (inl b) =
    elim (or_cases (is_word (x ∷ xs)) (is_number (x ∷ xs) || (is_quoted (x ∷ xs) || is_mark (x ∷ xs))) h) [
      | inl w ↦ by_first Word (x ∷ xs) rest (omega arith) (word_front (x ∷ xs) rest w b)
      | inr r ↦ elim (or_cases (is_number (x ∷ xs)) (is_quoted (x ∷ xs) || is_mark (x ∷ xs)) r) [
        | inl n ↦ by_first Number (x ∷ xs) rest (omega arith) (number_front (x ∷ xs) rest n b)
        | inr s ↦ elim (or_cases (is_quoted (x ∷ xs)) (is_mark (x ∷ xs)) s) [
          | inl q ↦ by_first Quoted (x ∷ xs) rest (omega arith) (quoted_front (x ∷ xs) rest q)
          | inr m ↦ by_first Symbol (x ∷ xs) rest (omega arith) (mark_front (x ∷ xs) rest m)
        ]
      ]
    ]

letter_no_blank : (b : ℕ) → is_letter b ≡ true → is_blank b ≡ false
letter_no_blank b h = grind (arith, nat_tests)

digit_no_blank : (b : ℕ) → is_digit b ≡ true → is_blank b ≡ false
digit_no_blank b h = grind (arith, nat_tests)

hyphen_no_blank : (b : ℕ) → (b == 45) ≡ true → is_blank b ≡ false
hyphen_no_blank b h = ap is_blank (eqb-true b 45 h)

quote_no_blank : (b : ℕ) → (b == 34) ≡ true → is_blank b ≡ false
quote_no_blank b h = ap is_blank (eqb-true b 34 h)

single_no_blank : (b : ℕ) → is_single b ≡ true → is_blank b ≡ false
single_no_blank b h = grind (arith, nat_tests)

number_no_blank : (b : ℕ) (bs : List ℕ) → is_number (b ∷ bs) ≡ true → is_blank b ≡ false
number_no_blank b bs h = by_hyphen (b == 45) refl h
  where
    by_hyphen : (x : Bool) → (b == 45) ≡ x → (if x then is_digits bs else is_digits (b ∷ bs)) ≡ true → is_blank b ≡ false
    by_hyphen true y h = hyphen_no_blank b y
    by_hyphen false y h = digit_no_blank b (and_left (is_digit b) (list_all is_digit bs) h)

mark_no_blank : (b : ℕ) (bs : List ℕ) → is_mark (b ∷ bs) ≡ true → is_blank b ≡ false
mark_no_blank b [] h = single_no_blank b h
mark_no_blank b (c ∷ bs) h = absurd (cc)

-- a printable token begins with no blank
printable_first : (b : ℕ) (bs : List ℕ) → is_printable (b ∷ bs) ≡ true → is_blank b ≡ false
printable_first b bs h =
    elim (or_cases (is_word (b ∷ bs)) (is_number (b ∷ bs) || (is_quoted (b ∷ bs) || is_mark (b ∷ bs))) h) [
      | inl w ↦ letter_no_blank b (and_left (is_letter b) (list_all is_word_byte bs) w)
      | inr r ↦ elim (or_cases (is_number (b ∷ bs)) (is_quoted (b ∷ bs) || is_mark (b ∷ bs)) r) [
        | inl n ↦ number_no_blank b bs n
        | inr s ↦ elim (or_cases (is_quoted (b ∷ bs)) (is_mark (b ∷ bs)) s) [
          | inl q ↦ quote_no_blank b (and_left (b == 34) (is_closed bs) q)
          | inr m ↦ mark_no_blank b bs m
        ]
      ]
    ]

pub no_blank_front : (t rest : List ℕ) → is_printable t ≡ true → prefix_len is_blank (t ++ rest) ≡ 0
no_blank_front [] rest h = absurd (cc)
no_blank_front (b ∷ bs) rest h = rw (printable_first b bs h) refl
