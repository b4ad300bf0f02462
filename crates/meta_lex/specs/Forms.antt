-- The form of each kind of token.
use Rattle.std.specs.Prelude.{ℕ, Bool, false, ◌&&◌, ◌||◌, ◌==◌, nat_lt, List, [], ◌∷◌, drop, if◌then◌else◌}
use Rattle.std.specs.List.{list_all, prefix_len}
use Rattle.meta_lex.specs.Bytes.{is_letter, is_digit, is_word_byte, is_quotable, is_single, is_bracket}
use Rattle.meta_lex.specs.declared.token.TokenKind.{TokenKind}
use Rattle.meta_lex.specs.declared.token.TokenKind.TheVariants.{Word, Number, Quoted, Symbol}

-- a letter, then letters, digits and hyphens
abbrev pub is_word : List ℕ → Bool
is_word [] = false
is_word (byte ∷ rest) = is_letter byte && list_all is_word_byte rest

-- one digit or more
abbrev pub is_digits : List ℕ → Bool
is_digits [] = false
is_digits (byte ∷ rest) = is_digit byte && list_all is_digit rest

-- digits, with a hyphen before them or not
abbrev pub is_number : List ℕ → Bool
is_number [] = false
is_number (byte ∷ rest) = if byte == 45 then is_digits rest else is_digits (byte ∷ rest)

-- one quote and nothing more
abbrev pub is_quote : List ℕ → Bool
is_quote [] = false
is_quote (byte ∷ []) = byte == 34
is_quote (byte ∷ next ∷ rest) = false

-- one or more bytes that may stand between quotes, then a quote
abbrev pub is_closed : List ℕ → Bool
is_closed rest =
    let inner = prefix_len is_quotable rest in nat_lt 0 inner && is_quote (drop inner rest)

-- a quote, one or more bytes that may stand between quotes, and a quote
abbrev pub is_quoted : List ℕ → Bool
is_quoted [] = false
is_quoted (byte ∷ rest) = byte == 34 && is_closed rest

-- a symbol of one byte, or two opening or two closing square brackets
abbrev pub is_symbol : List ℕ → Bool
is_symbol [] = false
is_symbol (byte ∷ []) = is_single byte
is_symbol (byte ∷ next ∷ []) = is_bracket byte && next == byte
is_symbol (byte ∷ next ∷ third ∷ rest) = false

-- the bytes are a token of the kind
abbrev pub has_form : TokenKind → List ℕ → Bool
has_form Word bytes = is_word bytes
has_form Number bytes = is_number bytes
has_form Quoted bytes = is_quoted bytes
has_form Symbol bytes = is_symbol bytes

-- the only kind of token that can begin with the byte
abbrev pub kind_of : ℕ → TokenKind
kind_of byte =
    if is_letter byte then Word
    else if is_digit byte || byte == 45 then Number
    else if byte == 34 then Quoted
    else Symbol
