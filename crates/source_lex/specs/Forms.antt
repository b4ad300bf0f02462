-- The forms of identifiers and numerals.
use Rattle.std.specs.Prelude.{ℕ, Bool, true, false, ◌&&◌, ◌||◌, ◌==◌, List, [], ◌∷◌}
use Rattle.std.specs.List.{list_all}
use Rattle.meta_lex.specs.Bytes.{is_letter, is_digit}
use Rattle.source_lex.specs.declared.lexeme.LexKind.{LexKind}
use Rattle.source_lex.specs.declared.lexeme.LexKind.TheVariants.{Literal, Identifier, Numeral}

-- what may follow the first letter of an identifier: a letter, a digit or `_`
abbrev pub is_name_byte : ℕ → Bool
is_name_byte byte = is_letter byte || is_digit byte || byte == 95

-- a letter, then letters, digits and `_`
abbrev pub is_identifier : List ℕ → Bool
is_identifier [] = false
is_identifier (byte ∷ rest) = is_letter byte && list_all is_name_byte rest

-- one digit or more
abbrev pub is_numeral : List ℕ → Bool
is_numeral [] = false
is_numeral (byte ∷ rest) = is_digit byte && list_all is_digit rest

-- the bytes have the form of the kind: a literal may have any bytes
abbrev pub has_form : LexKind → List ℕ → Bool
has_form (Literal number) bytes = true
has_form Identifier bytes = is_identifier bytes
has_form Numeral bytes = is_numeral bytes
