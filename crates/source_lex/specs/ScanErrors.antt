-- When each error of `scan` comes.
use Rattle.std.specs.Prelude.{ℕ, ◌<◌, List, length}
use Rattle.acg_base.specs.declared.limits.TheConstants.{LIMIT_LEXEMES}
use Rattle.source_lex.specs.Lexemes.{PlainLexeme, AreLexemes, AreNoOthers, IsBadByte}
use Rattle.source_lex.specs.declared.errors.ScanError.{ScanError}
use Rattle.source_lex.specs.declared.errors.ScanError.TheVariants.{Memory, BadByte, Count}

-- want of memory is free to come; a bad byte is the first place where, after blanks, no lexeme begins, and then the source has
-- no lexemes; with too many of them it is these and no others
abbrev pub IsScanError : (literals : List (List ℕ)) → List ℕ → ScanError → Type 0
IsScanError literals bytes Memory = Unit {0}
IsScanError literals bytes (BadByte offset) =
    IsBadByte literals bytes offset × ((ls : List PlainLexeme) → AreLexemes literals bytes ls → ⊥)
IsScanError literals bytes Count =
    (ls : List PlainLexeme) × AreLexemes literals bytes ls × AreNoOthers literals bytes ls × (LIMIT_LEXEMES < length ls)
