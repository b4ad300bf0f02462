-- The longest lexeme, from the longest literal and the longest word.
use Rattle.std.proofs.Common.{◌≡◌, ◌≢◌, ℕ, ◌<◌, ◌≤◌, inl, inr, List, [], ◌∷◌, length, take, drop, get_or, refl, sym, ap, ◌∙◌, arith, Some}
use Rattle.std.specs.Prelude.{AllPairs, slice_get}
use Rattle.std.proofs.lemmas.Bool.{cases_order}
use Rattle.source_lex.specs.Lexemes.{IsLexeme, IsNext}
use Rattle.source_lex.specs.Literals.{IsWord, IsLongestAmong, IsLongestWord, HasNoWord}
use Rattle.source_lex.specs.declared.lexeme.LexKind.{LexKind}
use Rattle.source_lex.specs.declared.lexeme.LexKind.TheVariants.{Literal, Identifier, Numeral}
use Rattle.source_lex.proofs.Search.{at_place}

-- a text that isn't empty is its first byte and the rest
pub first_and_rest : (bytes after : List ℕ) → 0 < length bytes → after ≡ drop 1 bytes → get_or bytes 0 0 ∷ after ≡ bytes
first_and_rest [] after some rest = absurd (omega arith)
first_and_rest (b ∷ bytes) after some rest = rw rest refl

-- of distinct texts one stands at one place
one_place : (texts : List (List ℕ)) (j k : ℕ) (x : List ℕ) → AllPairs (λ x y. x ≢ y) texts → slice_get texts j ≡ Some x → slice_get texts k ≡ Some x → j ≡ k
one_place texts j k x distinct here there =
    let a : (j < length texts) × (get_or texts j [] ≡ x) = at_place texts j x [] here in
    let b : (k < length texts) × (get_or texts k [] ≡ x) = at_place texts k x [] there in
    elim (cases_order j k) [
      | inl same ↦ same
      | inr (inl less) ↦ absurd (distinct j k [] less b.0 (a.1 ∙ sym b.1))
      | inr (inr less) ↦ absurd (distinct k j [] less a.0 (b.1 ∙ sym a.1))
    ]

one_literal : (literals : List (List ℕ)) (bytes : List ℕ) (j k n : ℕ) → AllPairs (λ x y. x ≢ y) literals
    → IsLexeme literals (Literal j) bytes n → IsLexeme literals (Literal k) bytes n → Literal k ≡ Literal j
one_literal literals bytes j k n distinct here there = ap Literal (one_place literals k j (take n bytes) distinct there.1.0 here.1.0)

-- each lexeme is a literal or a word
any_longest : (literals : List (List ℕ)) (bytes : List ℕ) (n : ℕ)
    → ((number m : ℕ) → IsLexeme literals (Literal number) bytes m → m ≤ n)
    → ((other : LexKind) (m : ℕ) → IsWord other → IsLexeme literals other bytes m → m ≤ n)
    → (other : LexKind) (m : ℕ) → IsLexeme literals other bytes m → m ≤ n
any_longest literals bytes n literal word (Literal number) m t = literal number m t
any_longest literals bytes n literal word Identifier m t = word Identifier m tt t
any_longest literals bytes n literal word Numeral m t = word Numeral m tt t

-- a literal where no word stands
pub literal_alone : (literals : List (List ℕ)) (bytes : List ℕ) (number n : ℕ) → AllPairs (λ x y. x ≢ y) literals
    → IsLongestAmong literals bytes number n → HasNoWord bytes → IsNext literals bytes (Literal number) n
literal_alone literals bytes number n distinct l none = record {
  here = l.here;
  longest = any_longest literals bytes n l.longest (λ other m word t. absurd (none literals other m word t));
  literal = λ other t. one_literal literals bytes other number n distinct t l.here;
}

-- a literal that is no shorter than the longest word
pub literal_first : (literals : List (List ℕ)) (bytes : List ℕ) (number n : ℕ) (kind : LexKind) (m : ℕ) → AllPairs (λ x y. x ≢ y) literals
    → IsLongestAmong literals bytes number n → IsLongestWord bytes kind m → m ≤ n → IsNext literals bytes (Literal number) n
literal_first literals bytes number n kind m distinct l w short = record {
  here = l.here;
  longest = any_longest literals bytes n l.longest (λ other k word t. omega (arith, w.longest literals other k word t));
  literal = λ other t. one_literal literals bytes other number n distinct t l.here;
}

-- a word that is longer than every literal
pub word_first : (literals : List (List ℕ)) (bytes : List ℕ) (n : ℕ) (kind : LexKind) (m : ℕ)
    → ((number k : ℕ) → IsLexeme literals (Literal number) bytes k → k ≤ n) → IsLongestWord bytes kind m → n < m → IsNext literals bytes kind m
word_first literals bytes n kind m most w less = record {
  here = w.here literals;
  longest = any_longest literals bytes m (λ number k t. omega (arith, most number k t)) (w.longest literals);
  literal = λ number t. absurd (omega (arith, most number m t));
}
