-- A grammar with numbers in the place of names and literals.
use Rattle.std.specs.Prelude.{ℕ, List, map, slice_get, Option}
use Rattle.std.specs.Borrow.{Bor}
use Rattle.std.specs.List.{position_or_len}
use Rattle.std.specs.Option.{option_and_then}
use Rattle.std.specs.Str.{bytes_eq}
use Rattle.gram_form.specs.Plain.{PlainPart, PlainLiteral, PlainNonterm, PlainIdentifier, PlainNumeral, PlainProduction, PlainGrammar}
use Rattle.gram_form.specs.Grammars.{names_of}
use Rattle.source_lex.specs.declared.lexeme.LexKind.TheVariants.{Literal, Identifier, Numeral}
use Rattle.source_lex.specs.declared.numbered.Symbol.{Symbol}
use Rattle.source_lex.specs.declared.numbered.Symbol.TheVariants.{Word, Phrase}

-- the parts of an alternative, each a lexeme of a kind or a phrase of the nonterminal with a number
abbrev pub Alternative : Type 0
Alternative = List Symbol

-- the alternatives of each nonterminal, by its number
abbrev pub Numbered : Type 0
Numbered = List (List Alternative)

-- the place of the first text that is the same, or the count of all where there is none
abbrev pub place_of : List (List ℕ) → List ℕ → ℕ
place_of texts bytes = position_or_len (bytes_eq bytes) texts

abbrev pub symbol_of : (names literals : List (List ℕ)) → PlainPart → Symbol
symbol_of names literals (PlainLiteral bytes) = Word (Literal (place_of literals bytes))
symbol_of names literals (PlainNonterm name) = Phrase (place_of names name)
symbol_of names literals PlainIdentifier = Word Identifier
symbol_of names literals PlainNumeral = Word Numeral

abbrev pub alternatives_of : (names literals : List (List ℕ)) → PlainProduction → List Alternative
alternatives_of names literals production = map (map (symbol_of names literals)) production.alternatives

-- a nonterminal's number is the place of its production, and a literal's the place among the literals
abbrev pub numbered : PlainGrammar → Numbered
numbered g = map (alternatives_of (names_of g.productions) g.literals) g.productions

-- an alternative of a nonterminal, by its number
abbrev pub alternative_of : Numbered → (nonterminal alternative : ℕ) → Option Alternative
alternative_of g n a = option_and_then (λ alternatives. slice_get alternatives a) (slice_get g n)

-- alternatives in an arena, without their places in memory
abbrev pub plain_alternatives : Bor (List (Bor (List Symbol))) → List Alternative
plain_alternatives list = map (λ (a : Bor (List Symbol)). a.now) list.now

abbrev pub plain_numbered : List (Bor (List (Bor (List Symbol)))) → Numbered
plain_numbered nonterminals = map plain_alternatives nonterminals
