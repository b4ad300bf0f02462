-- What the search for the longest lexeme finds.
use Rattle.std.specs.Prelude.{◌≡◌, ℕ, ◌≤◌, List, length, slice_get, Some, Contains}
use Rattle.source_lex.specs.Lexemes.{IsLexeme}
use Rattle.source_lex.specs.declared.lexeme.LexKind.{LexKind}
use Rattle.source_lex.specs.declared.lexeme.LexKind.TheVariants.{Literal, Identifier, Numeral}

-- each literal has one of the lengths
abbrev pub HasLengths : (lengths : List ℕ) → (literals : List (List ℕ)) → Type 0
HasLengths lengths literals =
    (number : ℕ) (literal : List ℕ) → slice_get literals number ≡ Some literal → Contains lengths (length literal)

-- the literal of that number is the longest at the front, with that length
pub record IsLongestAmong (literals : List (List ℕ)) (bytes : List ℕ) (number n : ℕ) : Type 0 where
  pub here : IsLexeme literals (Literal number) bytes n
  pub longest : (other m : ℕ) → IsLexeme literals (Literal other) bytes m → m ≤ n

-- no literal stands at the front
abbrev pub HasNoneAmong : (literals : List (List ℕ)) → (bytes : List ℕ) → Type 0
HasNoneAmong literals bytes = (number n : ℕ) → IsLexeme literals (Literal number) bytes n → ⊥

-- the kind is that of identifiers or that of numerals
abbrev pub IsWord : LexKind → Type 0
IsWord (Literal number) = ⊥
IsWord Identifier = Unit {0}
IsWord Numeral = Unit {0}

-- an identifier or a numeral stands at the front, with that length, and none has more
pub record IsLongestWord (bytes : List ℕ) (kind : LexKind) (n : ℕ) : Type 0 where
  pub word : IsWord kind
  pub here : (literals : List (List ℕ)) → IsLexeme literals kind bytes n
  pub longest : (literals : List (List ℕ)) (other : LexKind) (m : ℕ) → IsWord other → IsLexeme literals other bytes m → m ≤ n

-- no identifier and no numeral stands at the front
abbrev pub HasNoWord : (bytes : List ℕ) → Type 0
HasNoWord bytes = (literals : List (List ℕ)) (kind : LexKind) (n : ℕ) → IsWord kind → IsLexeme literals kind bytes n → ⊥
