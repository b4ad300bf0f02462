-- Where parts of an alternative lead, and where a phrase ends in front of others.
use Rattle.std.specs.Prelude.{◌≡◌, ◌<◌, ◌≤◌, ℕ, ◌+◌, List, length, slice_get, Some, Contains}
use Rattle.source_lex.specs.Numbered.{Alternative, Numbered}
use Rattle.source_lex.specs.Trees.{Has}
use Rattle.source_lex.specs.declared.numbered.Symbol.{Symbol}
use Rattle.source_lex.specs.declared.numbered.Symbol.TheVariants.{Word, Phrase}
use Rattle.source_lex.specs.declared.lexeme.LexKind.{LexKind}
use Rattle.chart_parse.specs.Growths.{HasPieces}

-- numbers of 32 bits tell the alternatives of each nonterminal apart
abbrev pub HaveFewAlternatives : Numbered → Type 0
HaveFewAlternatives g =
    (n : ℕ) (alternatives : List Alternative) → slice_get g n ≡ Some alternatives
    → length alternatives < 4294967296

-- the places are at most the number of lexemes
abbrev pub AreWithin : (w : List LexKind) → (places : List ℕ) → Type 0
AreWithin w places = (k : ℕ) → Contains places k → k ≤ length w

-- the parts are words alone
abbrev pub AreWords : Alternative → Type 0
AreWords parts = (k : ℕ) → k < length parts → (c : LexKind) × (slice_get parts k ≡ Some (Word c))

-- the part leads from k to e
abbrev pub Leads : (g : Numbered) (w : List LexKind) → Symbol → (k e : ℕ) → Type 0
Leads g w (Word c) k e = (slice_get w k ≡ Some c) × (k + 1 ≡ e)
Leads g w (Phrase m) k e = Has g w m k e

-- the part leads to e from one of the places
abbrev pub LeadsFrom : (g : Numbered) (w : List LexKind) → Symbol → (places : List ℕ) (e : ℕ)
    → Type 0
LeadsFrom g w part places e = (k : ℕ) × Contains places k × Leads g w part k e

-- a phrase of m in front of the parts, over i to j, can end at k
abbrev pub Cuts : (g : Numbered) (w : List LexKind) (m : ℕ) (rest : Alternative) (i j k : ℕ)
    → Type 0
Cuts g w m rest i j k = Has g w m i k × HasPieces g w rest k j

-- of the places, one from which the parts lead to the end
abbrev pub CutsAmong : (g : Numbered) (w : List LexKind) (rest : Alternative) (j : ℕ) → List ℕ
    → (k : ℕ) → Type 0
CutsAmong g w rest j places k = Contains places k × HasPieces g w rest k j
