-- Phrases that begin with a phrase.
use Rattle.std.specs.Prelude.{◌≡◌, ℕ, List, ◌∷◌, Some}
use Rattle.gram_form.specs.Trees.{Pieces}
use Rattle.source_lex.specs.Numbered.{Alternative, Numbered, alternative_of}
use Rattle.source_lex.specs.Trees.{ArePieces}
use Rattle.source_lex.specs.declared.numbered.Symbol.TheVariants.{Phrase}
use Rattle.source_lex.specs.declared.lexeme.LexKind.{LexKind}

-- pieces stand for the parts, from i to j
abbrev pub HasPieces : (g : Numbered) (w : List LexKind) (parts : Alternative) (i j : ℕ) → Type 0
HasPieces g w parts i j = (pieces : Pieces) × ArePieces g w parts i j pieces

-- a phrase of c that ends at k can begin a phrase of n that ends at j: it is that phrase, or it begins one of m that can
pub data Grows (g : Numbered) (w : List LexKind) (n j : ℕ) : ℕ → ℕ → Type 0 where
  Stays : Grows g w n j n j
  Steps : {c k : ℕ} (m a : ℕ) (rest : Alternative) (l : ℕ) → alternative_of g m a ≡ Some (Phrase c ∷ rest)
      → HasPieces g w rest k l → Grows g w n j m l → Grows g w n j c k
