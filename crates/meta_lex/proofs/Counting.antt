-- A text has no more tokens than bytes.
use Rattle.std.proofs.Common.{ℕ, zero, suc, ◌+◌, ◌<◌, ◌≤◌, List, [], ◌∷◌, length, drop, arith}
use Rattle.meta_lex.specs.Tokens.{PlainToken, IsToken, Reads, AreTokens, after_blanks}
use Rattle.meta_lex.specs.declared.token.TokenKind.{TokenKind}
use Rattle.meta_lex.proofs.FirstBytes.{no_form}

-- a token has a byte
some_bytes : (kind : TokenKind) (bytes : List ℕ) (n : ℕ) → IsToken kind bytes n → 0 < n
some_bytes kind [] zero t = absurd (no_form kind t.1)
some_bytes kind (b ∷ bytes) zero t = absurd (no_form kind t.1)
some_bytes kind bytes (suc n) t = omega arith

-- so many tokens take at least so many bytes
reads_count : (bytes : List ℕ) (from to : ℕ) (ts : List PlainToken) → Reads bytes from ts to → from + length ts ≤ to
reads_count bytes from to [] r = omega (arith, r)
reads_count bytes from to (t ∷ ts) r =
    let one = some_bytes t.kind (drop (after_blanks bytes from) bytes) (length t.bytes) r.0.2.0 in
    let rest = reads_count bytes (after_blanks bytes from + length t.bytes) to ts r.1 in
    omega (arith, one, rest)

pub token_count : (bytes : List ℕ) (ts : List PlainToken) → AreTokens bytes ts → length ts ≤ length bytes
token_count bytes ts are = let count = reads_count bytes 0 are.0 ts are.1 in omega (arith, count, are.2)
