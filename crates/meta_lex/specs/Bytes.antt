-- Which bytes may stand where in a token.
use Rattle.std.specs.Prelude.{ℕ, Bool, ◌&&◌, ◌||◌, not, ◌==◌, nat_le}

-- an ASCII letter, small or capital
abbrev pub is_letter : ℕ → Bool
is_letter byte = (nat_le 97 byte && nat_le byte 122) || (nat_le 65 byte && nat_le byte 90)

-- a decimal digit
abbrev pub is_digit : ℕ → Bool
is_digit byte = nat_le 48 byte && nat_le byte 57

-- what may follow the first letter of a word: a letter, a digit or a hyphen
abbrev pub is_word_byte : ℕ → Bool
is_word_byte byte = is_letter byte || is_digit byte || byte == 45

-- what may stand between quotes: from 0x21 to 0x7E, but no quote
abbrev pub is_quotable : ℕ → Bool
is_quotable byte = nat_le 33 byte && nat_le byte 126 && not (byte == 34)

-- a tab, a line feed, a carriage return or a space
abbrev pub is_blank : ℕ → Bool
is_blank byte = byte == 9 || byte == 10 || byte == 13 || byte == 32

-- a symbol of one byte: ( ) , # . = | : _
abbrev pub is_single : ℕ → Bool
is_single byte =
    byte == 40 || byte == 41 || byte == 44 || byte == 35 || byte == 46 || byte == 61
    || byte == 124 || byte == 58 || byte == 95

-- a square bracket, of which two make a symbol
abbrev pub is_bracket : ℕ → Bool
is_bracket byte = byte == 91 || byte == 93
