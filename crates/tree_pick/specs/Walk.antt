-- What a walk over the spots has looked at.
use Rattle.std.specs.Prelude.{◌≡◌, ◌≤◌, ℕ, ◌+◌, List, [], ◌∷◌, slice_get, Some, Contains, length}
use Rattle.gram_form.specs.Trees.{PlainTree}
use Rattle.source_lex.specs.Numbered.{Alternative, Numbered, alternative_of}
use Rattle.source_lex.specs.Trees.{Has, IsWhole}
use Rattle.source_lex.specs.declared.numbered.Symbol.TheVariants.{Word, Phrase}
use Rattle.source_lex.specs.declared.lexeme.LexKind.{LexKind}
use Rattle.chart_parse.specs.Growths.{HasPieces}
use Rattle.tree_pick.specs.declared.phrases.Span.{Span}
use Rattle.tree_pick.specs.Runs.{Cuts}
use Rattle.tree_pick.specs.Spines.{Spot, Spanning, Growing, CanGrow, FitsLeaf, FitsStep, Reached, HasOneChoice}

-- a phrase of the nonterminal over the lexemes from the start to the end
abbrev pub span : (nonterminal start end : ℕ) → Span
span n i j = record { nonterm = n; start = i; end = j }

-- each phrase among the parts has at most one end, and is on the list
abbrev pub WorkedParts : (g : Numbered) (w : List LexKind) → List Span → Alternative → (k l : ℕ)
    → Type 0
WorkedParts g w seen [] k l = Unit {0}
WorkedParts g w seen (Word c ∷ rest) k l = WorkedParts g w seen rest (k + 1) l
WorkedParts g w seen (Phrase m ∷ rest) k l =
    ((h o : ℕ) → Cuts g w m rest k l h → Cuts g w m rest k l o → h ≡ o)
    × ((h : ℕ) → Cuts g w m rest k l h → Contains seen (span m k h) × WorkedParts g w seen rest h l)

-- the same from here on until the growth is whole
pub data WorkedGrowth (g : Numbered) (w : List LexKind) (seen : List Span) (n j : ℕ) : ℕ → ℕ
    → Type 0 where
  Worked : {c k : ℕ} → HasOneChoice g w (Growing c k n j)
      → ((m a l : ℕ) (rest : Alternative) → alternative_of g m a ≡ Some (Phrase c ∷ rest)
      → HasPieces g w rest k l → CanGrow g w n j m l → WorkedParts g w seen rest k l)
      → ((m a l : ℕ) → FitsStep g w c k m a l → CanGrow g w n j m l → WorkedGrowth g w seen n j m l)
      → WorkedGrowth g w seen n j c k

-- the parts behind the first word of a leaf are looked at
abbrev pub WorkedLeaf : (g : Numbered) (w : List LexKind) → List Span → (i b a k : ℕ) → Type 0
WorkedLeaf g w seen i b a k =
    (c : LexKind) (rest : Alternative) → alternative_of g b a ≡ Some (Word c ∷ rest)
    → slice_get w i ≡ Some c → WorkedParts g w seen rest (i + 1) k

-- the phrase has at most one leaf, and what it leads to is looked at
abbrev pub WorkedSpan : (g : Numbered) (w : List LexKind) → List Span → (n i j : ℕ) → Type 0
WorkedSpan g w seen n i j =
    HasOneChoice g w (Spanning n i j)
    × ((b a k : ℕ) → FitsLeaf g w i b a k → CanGrow g w n j b k
    → WorkedGrowth g w seen n j b k × WorkedLeaf g w seen i b a k)

-- the start over all lexemes
abbrev pub root_of : List LexKind → Spot
root_of w = Spanning 0 0 (length w)

-- the phrase is reached from the root, has a tree, and begins within the lexemes
pub record IsReached (g : Numbered) (w : List LexKind) (x : Span) : Type 0 where
  pub at : Reached g w (root_of w) (Spanning x.nonterm x.start x.end)
  pub has : Has g w x.nonterm x.start x.end
  pub within : x.start ≤ length w

-- so is each phrase on the list
abbrev pub AreReached : (g : Numbered) (w : List LexKind) → List Span → Type 0
AreReached g w seen = (x : Span) → Contains seen x → IsReached g w x

-- two trees over all lexemes are one
abbrev pub HasAtMostOne : (g : Numbered) (w : List LexKind) → Type 0
HasAtMostOne g w = (t u : PlainTree) → IsWhole g w t → IsWhole g w u → t ≡ u
