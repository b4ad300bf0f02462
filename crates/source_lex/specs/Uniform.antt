-- Trees in which two phrases of one production over one span are equal.
use Rattle.std.specs.Prelude.{◌≡◌, ◌⊎◌}
use Rattle.gram_form.specs.Trees.{PlainTree, Node, Pieces, End, Lexeme, Under}

abbrev mutual
  -- the second tree is the first, or stands below it
  pub Holds : PlainTree → PlainTree → Type 0
  Holds (Node production alternative pieces start end) u =
      (Node production alternative pieces start end ≡ u) ⊎ HoldPieces pieces u

  pub HoldPieces : Pieces → PlainTree → Type 0
  HoldPieces End u = ⊥
  HoldPieces (Lexeme number rest) u = HoldPieces rest u
  HoldPieces (Under tree rest) u = Holds tree u ⊎ HoldPieces rest u

-- the production, the start and the end of the two are the same
abbrev pub HaveSameSpan : PlainTree → PlainTree → Type 0
HaveSameSpan (Node n a ps i j) (Node m b qs k l) = (n ≡ m) × (i ≡ k) × (j ≡ l)

-- two subtrees of one production and one span are equal
abbrev pub IsUniform : PlainTree → Type 0
IsUniform t = (s u : PlainTree) → Holds t s → Holds t u → HaveSameSpan s u → s ≡ u
