-- The first byte of a token says its kind.
use Rattle.std.proofs.Common.{◌≡◌, ℕ, zero, suc, ◌≤◌, Bool, true, false, cond, ◌==◌, List, [], ◌∷◌, take, refl, sym, ◌∙◌, subst, arith}
use Rattle.std.proofs.lemmas.Bool.Decides.{nat_tests}
use Rattle.std.specs.List.{list_all}
use Rattle.meta_lex.specs.Bytes.{is_letter, is_digit, is_word_byte, is_single, is_bracket}
use Rattle.meta_lex.specs.Forms.{has_form, is_symbol, is_digits, is_closed, kind_of}
use Rattle.meta_lex.specs.Tokens.{IsToken, IsLongest, HasNone}
use Rattle.meta_lex.specs.declared.token.TokenKind.{TokenKind}
use Rattle.meta_lex.specs.declared.token.TokenKind.TheVariants.{Word, Number, Quoted, Symbol}
use Rattle.meta_lex.proofs.Prefixes.{left}

letter_kind : (b : ℕ) → is_letter b ≡ true → kind_of b ≡ Word
letter_kind b h = rw h refl

digit_kind : (b : ℕ) → is_digit b ≡ true → kind_of b ≡ Number
digit_kind b h = grind (arith, nat_tests)

hyphen_kind : (b : ℕ) → (b == 45) ≡ true → kind_of b ≡ Number
hyphen_kind b h = grind (arith, nat_tests)

quote_kind : (b : ℕ) → (b == 34) ≡ true → kind_of b ≡ Quoted
quote_kind b h = grind (arith, nat_tests)

-- a symbol of one byte is a symbol
pub single_kind : (b : ℕ) → is_single b ≡ true → kind_of b ≡ Symbol
single_kind b h = grind (arith, nat_tests)

bracket_kind : (b : ℕ) → is_bracket b ≡ true → kind_of b ≡ Symbol
bracket_kind b h = grind (arith, nat_tests)

number_kind : (b : ℕ) (rest : List ℕ) (hyphen : Bool) → (b == 45) ≡ hyphen → cond hyphen (is_digits rest) (is_digits (b ∷ rest)) ≡ true → kind_of b ≡ Number
number_kind b rest true e h = hyphen_kind b e
number_kind b rest false e h = digit_kind b (left (is_digit b) (list_all is_digit rest) h)

symbol_kind : (b : ℕ) (rest : List ℕ) → is_symbol (b ∷ rest) ≡ true → kind_of b ≡ Symbol
symbol_kind b [] h = single_kind b h
symbol_kind b (c ∷ []) h = bracket_kind b (left (is_bracket b) (c == b) h)
symbol_kind b (c ∷ d ∷ rest) h = cc

form_kind : (kind : TokenKind) (b : ℕ) (rest : List ℕ) → has_form kind (b ∷ rest) ≡ true → kind_of b ≡ kind
form_kind Word b rest h = letter_kind b (left (is_letter b) (list_all is_word_byte rest) h)
form_kind Number b rest h = number_kind b rest (b == 45) refl h
form_kind Quoted b rest h = quote_kind b (left (b == 34) (is_closed rest) h)
form_kind Symbol b rest h = symbol_kind b rest h

-- no token is empty
pub no_form : (kind : TokenKind) → has_form kind [] ≡ true → ⊥
no_form Word h = cc
no_form Number h = cc
no_form Quoted h = cc
no_form Symbol h = cc

-- the kind of a token at the front is that of its first byte
pub kind_of_front : (kind : TokenKind) (b : ℕ) (rest : List ℕ) (n : ℕ) → IsToken kind (b ∷ rest) n → kind_of b ≡ kind
kind_of_front kind b rest zero t = absurd (no_form kind t.1)
kind_of_front kind b rest (suc n) t = form_kind kind b (take n rest) t.1

-- a token is the longest if no other of its kind is longer
pub longest_of_kind : (kind : TokenKind) (b : ℕ) (rest : List ℕ) (n : ℕ) → IsToken kind (b ∷ rest) n
    → ((m : ℕ) → IsToken kind (b ∷ rest) m → m ≤ n) → IsLongest kind (b ∷ rest) n
longest_of_kind kind b rest n t longest =
    (t, λ other m u. longest m (subst (λ k. IsToken k (b ∷ rest) m) (sym (kind_of_front other b rest m u) ∙ kind_of_front kind b rest n t) u))

-- no token begins at the front if none of the kind of its first byte does
pub none_of_kind : (kind : TokenKind) (b : ℕ) (rest : List ℕ) → kind_of b ≡ kind
    → ((m : ℕ) → IsToken kind (b ∷ rest) m → ⊥) → HasNone (b ∷ rest)
none_of_kind kind b rest is none other m t =
    none m (subst (λ k. IsToken k (b ∷ rest) m) (sym (kind_of_front other b rest m t) ∙ is) t)
