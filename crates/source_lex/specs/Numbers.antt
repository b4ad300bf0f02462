-- The numbers in a grammar with numbers.
use Rattle.std.specs.Prelude.{◌≡◌, ◌<◌, ℕ, length, slice_get, Some}
use Rattle.source_lex.specs.Numbered.{Alternative, Numbered, alternative_of}
use Rattle.source_lex.specs.declared.lexeme.LexKind.TheVariants.{Literal}
use Rattle.source_lex.specs.declared.numbered.Symbol.{Symbol}
use Rattle.source_lex.specs.declared.numbered.Symbol.TheVariants.{Word, Phrase}

-- the number of a symbol is that of a nonterminal or of a literal, where there are so many
abbrev pub IsNumberOf : (nonterminals literals : ℕ) → Symbol → Type 0
IsNumberOf nonterminals literals (Word (Literal number)) = number < literals
IsNumberOf nonterminals literals (Word kind) = Unit {0}
IsNumberOf nonterminals literals (Phrase number) = number < nonterminals

-- each part of each alternative has such a number
abbrev pub HasNumbersWithin : Numbered → (literals : ℕ) → Type 0
HasNumbersWithin g literals = (n a k : ℕ) (parts : Alternative) (part : Symbol)
    → alternative_of g n a ≡ Some parts → slice_get parts k ≡ Some part
    → IsNumberOf (length g) literals part
