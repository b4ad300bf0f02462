-- One more token, and one more item of the list that a loop fills.
use Rattle.std.proofs.Common.{◌≡◌, ℕ, ◌+◌, List, [], ◌∷◌, ◌++◌, length, map, refl}
use Rattle.std.proofs.lemmas.List.{map-append}
use Rattle.meta_lex.specs.Tokens.{PlainToken, IsTokenAt, Reads, after_blanks, plain_token}
use Rattle.meta_lex.specs.declared.token.Token.{Token}

-- behind the tokens that were read stands one more
pub reads_more : (bytes : List ℕ) (from to at : ℕ) (ts : List PlainToken) (t : PlainToken)
    → Reads bytes from ts to → after_blanks bytes to ≡ at → IsTokenAt bytes at t → Reads bytes from (ts ++ t ∷ []) (at + length t.bytes)
reads_more bytes from to at [] t same blanks here =
    let here_at : after_blanks bytes from ≡ at = rw same blanks in
    (rw here_at here, rw here_at refl)
reads_more bytes from to at (u ∷ ts) t reads blanks here =
    (reads.0, reads_more bytes (after_blanks bytes from + length u.bytes) to at ts t reads.1 blanks here)

-- the same, for tokens in an arena
pub reads_pushed : (bytes : List ℕ) (to at : ℕ) (ts us : List Token) (t : Token)
    → Reads bytes 0 (map plain_token ts) to → after_blanks bytes to ≡ at → IsTokenAt bytes at (plain_token t) → us ≡ ts ++ t ∷ []
    → Reads bytes 0 (map plain_token us) (at + length t.bytes.now)
reads_pushed bytes to at ts us t reads blanks here more =
    rw (more, map-append) (reads_more bytes 0 to at (map plain_token ts) (plain_token t) reads blanks here)
