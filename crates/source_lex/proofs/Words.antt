-- Identifiers and numerals at the front.
use Rattle.std.proofs.Common.{◌≡◌, ℕ, zero, suc, ◌+◌, ◌≤◌, Bool, true, false, List, [], ◌∷◌, length, take, arith}
use Rattle.std.specs.List.{list_all, prefix_len}
use Rattle.std.proofs.lemmas.Bool.Decides.{nat_tests}
use Rattle.std.proofs.lemmas.List.Sums.{prefix_len-le-length}
use Rattle.std.proofs.Math.Numerals.{one-add}
use Rattle.meta_lex.specs.Bytes.{is_letter, is_digit}
use Rattle.meta_lex.proofs.Prefixes.{both, left, right, list_all-prefix_len, prefix_len-above}
use Rattle.source_lex.specs.Forms.{is_name_byte, has_form}
use Rattle.source_lex.specs.Lexemes.{IsOfKind}
use Rattle.source_lex.specs.Literals.{IsWord, IsLongestWord, HasNoWord}
use Rattle.source_lex.specs.declared.lexeme.LexKind.{LexKind}
use Rattle.source_lex.specs.declared.lexeme.LexKind.TheVariants.{Literal, Identifier, Numeral}

formed : (literals : List (List ℕ)) (kind : LexKind) (bytes : List ℕ) → IsWord kind → IsOfKind literals kind bytes → has_form kind bytes ≡ true
formed literals (Literal n) bytes word of = absurd word
formed literals Identifier bytes word of = of
formed literals Numeral bytes word of = of

of_form : (literals : List (List ℕ)) (kind : LexKind) (bytes : List ℕ) → IsWord kind → has_form kind bytes ≡ true → IsOfKind literals kind bytes
of_form literals (Literal n) bytes word form = absurd word
of_form literals Identifier bytes word form = form
of_form literals Numeral bytes word form = form

no_empty_word : (kind : LexKind) → IsWord kind → has_form kind [] ≡ true → ⊥
no_empty_word (Literal n) word form = word
no_empty_word Identifier word form = cc
no_empty_word Numeral word form = cc

-- a first byte and a run of bytes that pass are the longest word, if each other one needs them to pass
run_longest : (kind : LexKind) (p : ℕ → Bool) (b : ℕ) (rest : List ℕ) → IsWord kind
    → has_form kind (b ∷ take (prefix_len p rest) rest) ≡ true
    → ((other : LexKind) (m : ℕ) → IsWord other → has_form other (b ∷ take m rest) ≡ true → list_all p (take m rest) ≡ true)
    → IsLongestWord (b ∷ rest) kind (1 + prefix_len p rest)
run_longest kind p b rest word here passes = record {
  word = word;
  here = λ literals. (omega (arith, prefix_len-le-length p rest), of_form literals kind _ word (rw one-add here));
  longest = λ literals other m is t. bound other m is (formed literals other _ is t.1) t.0;
}
  where
    bound : (other : LexKind) (m : ℕ) → IsWord other → has_form other (take m (b ∷ rest)) ≡ true → m ≤ length (b ∷ rest) → m ≤ 1 + prefix_len p rest
    bound other zero is form short = omega arith
    bound other (suc m) is form short = omega (arith, prefix_len-above p rest m (omega arith) (passes other m is form))

-- what begins with a letter is an identifier, and with a digit a numeral
letter_passes : (b : ℕ) (xs : List ℕ) (other : LexKind) → is_letter b ≡ true → IsWord other → has_form other (b ∷ xs) ≡ true → list_all is_name_byte xs ≡ true
letter_passes b xs (Literal n) letter word form = absurd word
letter_passes b xs Identifier letter word form = right (is_letter b) (list_all is_name_byte xs) form
letter_passes b xs Numeral letter word form = absurd (apart b letter (left (is_digit b) (list_all is_digit xs) form))
  where
    apart : (b : ℕ) → is_letter b ≡ true → is_digit b ≡ true → ⊥
    apart b l d = grind (arith, nat_tests)

digit_passes : (b : ℕ) (xs : List ℕ) (other : LexKind) → is_letter b ≡ false → IsWord other → has_form other (b ∷ xs) ≡ true → list_all is_digit xs ≡ true
digit_passes b xs (Literal n) other word form = absurd word
digit_passes b xs Identifier other word form = let letter : is_letter b ≡ true = left (is_letter b) (list_all is_name_byte xs) form in cc
digit_passes b xs Numeral other word form = right (is_digit b) (list_all is_digit xs) form

-- an identifier goes on as long as there are letters, digits and `_`
pub identifier_longest : (b : ℕ) (rest : List ℕ) → is_letter b ≡ true → IsLongestWord (b ∷ rest) Identifier (1 + prefix_len is_name_byte rest)
identifier_longest b rest letter =
    run_longest Identifier is_name_byte b rest tt
    (both (is_letter b) (list_all is_name_byte (take (prefix_len is_name_byte rest) rest)) letter (list_all-prefix_len is_name_byte rest))
    (λ other m is form. letter_passes b (take m rest) other letter is form)

-- a numeral goes on as long as there are digits
pub numeral_longest : (b : ℕ) (rest : List ℕ) → is_letter b ≡ false → is_digit b ≡ true → IsLongestWord (b ∷ rest) Numeral (1 + prefix_len is_digit rest)
numeral_longest b rest letter digit =
    run_longest Numeral is_digit b rest tt
    (both (is_digit b) (list_all is_digit (take (prefix_len is_digit rest) rest)) digit (list_all-prefix_len is_digit rest))
    (λ other m is form. digit_passes b (take m rest) other letter is form)

-- no other byte begins a word
pub no_word : (b : ℕ) (rest : List ℕ) → is_letter b ≡ false → is_digit b ≡ false → HasNoWord (b ∷ rest)
no_word b rest letter digit literals kind zero word t = no_empty_word kind word (formed literals kind [] word t.1)
no_word b rest letter digit literals kind (suc n) word t = begins kind word (formed literals kind (b ∷ take n rest) word t.1)
  where
    begins : (kind : LexKind) → IsWord kind → has_form kind (b ∷ take n rest) ≡ true → ⊥
    begins (Literal k) word form = word
    begins Identifier word form = let is : is_letter b ≡ true = left (is_letter b) (list_all is_name_byte (take n rest)) form in cc
    begins Numeral word form = let is : is_digit b ≡ true = left (is_digit b) (list_all is_digit (take n rest)) form in cc
