-- The trees of a nonterminal over a span of lexemes, and the one tree.
use Rattle.std.specs.Prelude.{◌≡◌, ◌≢◌, ℕ, ◌+◌, List, [], ◌∷◌, length, map, slice_get, Some}
use Rattle.gram_form.specs.Trees.{PlainTree, Node, Pieces, End, Lexeme, Under}
use Rattle.source_lex.specs.Lexemes.{PlainLexeme}
use Rattle.source_lex.specs.Numbered.{Alternative, Numbered, alternative_of}
use Rattle.source_lex.specs.declared.numbered.Symbol.TheVariants.{Word, Phrase}
use Rattle.source_lex.specs.declared.lexeme.LexKind.{LexKind}

-- the kinds of lexemes: a tree is over these
abbrev pub kinds_of : List PlainLexeme → List LexKind
kinds_of lexemes = map (λ (l : PlainLexeme). l.kind) lexemes

abbrev mutual
  -- the tree chooses an alternative of the nonterminal, and its parts are cut from the lexemes from i to j
  pub IsTree : (g : Numbered) (w : List LexKind) (nonterminal i j : ℕ) → PlainTree → Type 0
  IsTree g w n i j (Node production alternative pieces start end) =
      (production ≡ n) × (start ≡ i) × (end ≡ j)
      × (parts : Alternative) × (alternative_of g n alternative ≡ Some parts) × ArePieces g w parts i j pieces

  -- the pieces stand for the parts, one behind the other, from i to j
  pub ArePieces : (g : Numbered) (w : List LexKind) (parts : Alternative) (i j : ℕ) → Pieces → Type 0
  ArePieces g w parts i j End = (parts ≡ []) × (i ≡ j)
  ArePieces g w parts i j (Lexeme number rest) =
      (number ≡ i) × (kind : LexKind) × (others : Alternative) × (parts ≡ Word kind ∷ others)
      × (slice_get w i ≡ Some kind) × ArePieces g w others (i + 1) j rest
  ArePieces g w parts i j (Under tree rest) =
      (n : ℕ) × (others : Alternative) × (k : ℕ) × (parts ≡ Phrase n ∷ others)
      × IsTree g w n i k tree × ArePieces g w others k j rest

-- a tree of the nonterminal spans i to j
abbrev pub Has : (g : Numbered) (w : List LexKind) (nonterminal i j : ℕ) → Type 0
Has g w n i j = (t : PlainTree) × IsTree g w n i j t

-- a tree of the start, which is the first nonterminal, over all lexemes
abbrev pub IsWhole : (g : Numbered) (w : List LexKind) → PlainTree → Type 0
IsWhole g w t = IsTree g w 0 0 (length w) t

-- the one tree over all lexemes: each one equals it
pub record IsOneTree (g : Numbered) (w : List LexKind) (t : PlainTree) : Type 0 where
  pub whole : IsWhole g w t
  pub only : (u : PlainTree) → IsWhole g w u → u ≡ t

-- there is no tree over all lexemes
abbrev pub HasNoTree : (g : Numbered) (w : List LexKind) → Type 0
HasNoTree g w = Has g w 0 0 (length w) → ⊥

-- two different trees stand over all lexemes
pub record HasTwoTrees (g : Numbered) (w : List LexKind) : Type 0 where
  pub first : PlainTree
  pub second : PlainTree
  pub first_whole : IsWhole g w first
  pub second_whole : IsWhole g w second
  pub different : first ≢ second
