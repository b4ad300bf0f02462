-- The lexemes of a source, and the first place where none begins.
use Rattle.std.specs.Prelude.{◌≡◌, ◌≢◌, ℕ, ◌+◌, ◌<◌, ◌≤◌, IsTrue, List, [], ◌∷◌, length, take, drop, slice_get, Some}
use Rattle.meta_lex.specs.Tokens.{after_blanks}
use Rattle.source_lex.specs.Forms.{is_identifier, is_numeral}
use Rattle.source_lex.specs.declared.lexeme.LexKind.{LexKind}
use Rattle.source_lex.specs.declared.lexeme.LexKind.TheVariants.{Literal, Identifier, Numeral}
use Rattle.source_lex.specs.declared.lexeme.Lexeme.{Lexeme}

-- the bytes are the literal of that number, which isn't empty, or an identifier, or a numeral
abbrev pub IsOfKind : (literals : List (List ℕ)) → LexKind → List ℕ → Type 0
IsOfKind literals (Literal number) bytes = (slice_get literals number ≡ Some bytes) × (bytes ≢ [])
IsOfKind literals Identifier bytes = IsTrue (is_identifier bytes)
IsOfKind literals Numeral bytes = IsTrue (is_numeral bytes)

-- the first n bytes are a lexeme of the kind
abbrev pub IsLexeme : (literals : List (List ℕ)) → LexKind → List ℕ → ℕ → Type 0
IsLexeme literals kind bytes n = (n ≤ length bytes) × IsOfKind literals kind (take n bytes)

-- the first n bytes are a lexeme of the kind, none at the front has more, and it is a literal where a literal has as many
pub record IsNext (literals : List (List ℕ)) (bytes : List ℕ) (kind : LexKind) (n : ℕ) : Type 0 where
  pub here : IsLexeme literals kind bytes n
  pub longest : (other : LexKind) (m : ℕ) → IsLexeme literals other bytes m → m ≤ n
  pub literal : (number : ℕ) → IsLexeme literals (Literal number) bytes n → kind ≡ Literal number

-- no lexeme begins at the front
abbrev pub HasNone : (literals : List (List ℕ)) → List ℕ → Type 0
HasNone literals bytes = (kind : LexKind) (n : ℕ) → IsLexeme literals kind bytes n → ⊥

-- a lexeme outside an arena
pub record PlainLexeme : Type 0 where
  pub kind : LexKind
  pub bytes : List ℕ
  pub offset : ℕ

abbrev pub plain_lexeme : Lexeme → PlainLexeme
plain_lexeme l = record { kind = l.kind; bytes = l.bytes.now; offset = l.offset }

-- the lexeme is the one to take at the place
abbrev pub IsLexemeAt : (literals : List (List ℕ)) → List ℕ → ℕ → PlainLexeme → Type 0
IsLexemeAt literals bytes at l =
    (l.offset ≡ at)
    × (l.bytes ≡ take (length l.bytes) (drop at bytes))
    × IsNext literals (drop at bytes) l.kind (length l.bytes)

-- from the one place on stand the lexemes, blanks before each, and the last one ends at the other place
abbrev pub Reads : (literals : List (List ℕ)) → List ℕ → ℕ → List PlainLexeme → ℕ → Type 0
Reads literals bytes from [] to = from ≡ to
Reads literals bytes from (l ∷ ls) to =
    let at = after_blanks bytes from in IsLexemeAt literals bytes at l × Reads literals bytes (at + length l.bytes) ls to

-- the source is these lexemes, with blanks before, between and behind them
abbrev pub AreLexemes : (literals : List (List ℕ)) → List ℕ → List PlainLexeme → Type 0
AreLexemes literals bytes ls = (to : ℕ) × Reads literals bytes 0 ls to × (after_blanks bytes to ≡ length bytes)

-- the source is no other lexemes than these
abbrev pub AreNoOthers : (literals : List (List ℕ)) → List ℕ → List PlainLexeme → Type 0
AreNoOthers literals bytes ls = (others : List PlainLexeme) → AreLexemes literals bytes others → others ≡ ls

-- after some lexemes and blanks the source goes on at the place, and no lexeme begins there
abbrev pub IsBadByte : (literals : List (List ℕ)) → List ℕ → ℕ → Type 0
IsBadByte literals bytes at =
    (ls : List PlainLexeme) × (to : ℕ) × Reads literals bytes 0 ls to × (after_blanks bytes to ≡ at)
    × (at < length bytes) × HasNone literals (drop at bytes)
