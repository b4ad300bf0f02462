-- The tokens of a text, and the first place where none begins.
use Rattle.std.specs.Prelude.{◌≡◌, ℕ, ◌+◌, ◌<◌, ◌≤◌, IsTrue, List, [], ◌∷◌, length, take, drop}
use Rattle.std.specs.List.{prefix_len}
use Rattle.meta_lex.specs.Bytes.{is_blank}
use Rattle.meta_lex.specs.Forms.{has_form}
use Rattle.meta_lex.specs.declared.token.TokenKind.{TokenKind}
use Rattle.meta_lex.specs.declared.token.Token.{Token}

-- the first n bytes are a token of the kind
abbrev pub IsToken : TokenKind → List ℕ → ℕ → Type 0
IsToken kind bytes n = (n ≤ length bytes) × IsTrue (has_form kind (take n bytes))

-- the first n bytes are a token of the kind, and no token at the front has more
abbrev pub IsLongest : TokenKind → List ℕ → ℕ → Type 0
IsLongest kind bytes n =
    IsToken kind bytes n × ((other : TokenKind) (m : ℕ) → IsToken other bytes m → m ≤ n)

-- no token begins at the front
abbrev pub HasNone : List ℕ → Type 0
HasNone bytes = (kind : TokenKind) (n : ℕ) → IsToken kind bytes n → ⊥

-- a token outside an arena
pub record PlainToken : Type 0 where
  pub kind : TokenKind
  pub bytes : List ℕ
  pub offset : ℕ

abbrev pub plain_token : Token → PlainToken
plain_token t = record { kind = t.kind; bytes = t.bytes.now; offset = t.offset }

-- the token is the longest one at the place
abbrev pub IsTokenAt : List ℕ → ℕ → PlainToken → Type 0
IsTokenAt bytes at t =
    (t.offset ≡ at)
    × (t.bytes ≡ take (length t.bytes) (drop at bytes))
    × IsLongest t.kind (drop at bytes) (length t.bytes)

-- the first place from the given one on where no blank stands
abbrev pub after_blanks : List ℕ → ℕ → ℕ
after_blanks bytes from = from + prefix_len is_blank (drop from bytes)

-- from the one place on stand the tokens, blanks before each, and the last one ends at the other place
abbrev pub Reads : List ℕ → ℕ → List PlainToken → ℕ → Type 0
Reads bytes from [] to = from ≡ to
Reads bytes from (t ∷ ts) to =
    let at = after_blanks bytes from in IsTokenAt bytes at t × Reads bytes (at + length t.bytes) ts to

-- the text is these tokens, with blanks before, between and behind them
abbrev pub AreTokens : List ℕ → List PlainToken → Type 0
AreTokens bytes ts = (to : ℕ) × Reads bytes 0 ts to × (after_blanks bytes to ≡ length bytes)

-- the text is no other tokens than these
abbrev pub AreNoOthers : List ℕ → List PlainToken → Type 0
AreNoOthers bytes ts = (others : List PlainToken) → AreTokens bytes others → others ≡ ts

-- after some tokens and blanks the text goes on at the place, and no token begins there
abbrev pub IsBadByte : List ℕ → ℕ → Type 0
IsBadByte bytes at =
    (ts : List PlainToken) × (to : ℕ) × Reads bytes 0 ts to × (after_blanks bytes to ≡ at)
    × (at < length bytes) × HasNone (drop at bytes)
