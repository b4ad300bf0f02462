-- When each error of `tokens` comes.
use Rattle.std.specs.Prelude.{ℕ, List}
use Rattle.meta_lex.specs.Tokens.{PlainToken, AreTokens, IsBadByte}
use Rattle.meta_lex.specs.declared.lex.LexError.{LexError}
use Rattle.meta_lex.specs.declared.lex.LexError.TheVariants.{Memory, BadByte}

-- want of memory is free to come; a bad byte is the first place where, after blanks, no token begins, and then the text has no tokens
abbrev pub IsLexError : List ℕ → LexError → Type 0
IsLexError bytes Memory = Unit {0}
IsLexError bytes (BadByte offset) = IsBadByte bytes offset × ((ts : List PlainToken) → AreTokens bytes ts → ⊥)
