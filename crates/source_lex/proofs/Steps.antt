-- One more lexeme, and one more item of the list that a loop fills.
use Rattle.std.proofs.Common.{◌≡◌, ℕ, suc, ◌+◌, List, [], ◌∷◌, ◌++◌, length, map, refl, ap}
use Rattle.std.proofs.lemmas.List.{map-append}
use Rattle.meta_lex.specs.Tokens.{after_blanks}
use Rattle.source_lex.specs.Lexemes.{PlainLexeme, IsLexemeAt, Reads, plain_lexeme}
use Rattle.source_lex.specs.declared.lexeme.Lexeme.{Lexeme}

-- behind the lexemes that were read stands one more
reads_more : (literals : List (List ℕ)) (bytes : List ℕ) (from to at : ℕ) (ls : List PlainLexeme) (l : PlainLexeme)
    → Reads literals bytes from ls to → after_blanks bytes to ≡ at → IsLexemeAt literals bytes at l
    → Reads literals bytes from (ls ++ l ∷ []) (at + length l.bytes)
reads_more literals bytes from to at [] l same blanks here =
    let here_at : after_blanks bytes from ≡ at = rw same blanks in
    (rw here_at here, rw here_at refl)
reads_more literals bytes from to at (u ∷ ls) l reads blanks here =
    (reads.0, reads_more literals bytes (after_blanks bytes from + length u.bytes) to at ls l reads.1 blanks here)

-- the same, for lexemes in an arena
pub reads_pushed : (literals : List (List ℕ)) (bytes : List ℕ) (to at : ℕ) (ls us : List Lexeme) (l : Lexeme)
    → Reads literals bytes 0 (map plain_lexeme ls) to → after_blanks bytes to ≡ at → IsLexemeAt literals bytes at (plain_lexeme l)
    → us ≡ ls ++ l ∷ [] → Reads literals bytes 0 (map plain_lexeme us) (at + length l.bytes.now)
reads_pushed literals bytes to at ls us l reads blanks here more =
    rw (more, map-append) (reads_more literals bytes 0 to at (map plain_lexeme ls) (plain_lexeme l) reads blanks here)

pub lexeme_count : (ls : List Lexeme) → length (map plain_lexeme ls) ≡ length ls
lexeme_count [] = refl
lexeme_count (l ∷ ls) = ap suc (lexeme_count ls)
