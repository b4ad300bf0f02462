-- A tree is its first leaf and what that grows into, its spine. The spots of a tree by spines, and
-- the choices that each has.
use Rattle.std.specs.Prelude.{◌≡◌, ◌≢◌, ◌⊎◌, ℕ, ◌+◌, List, [], ◌∷◌, slice_get, Some}
use Rattle.gram_form.specs.Trees.{PlainTree, Node, Pieces, Under}
use Rattle.source_lex.specs.Numbered.{Alternative, Numbered, alternative_of}
use Rattle.source_lex.specs.Trees.{IsTree, ArePieces, Has}
use Rattle.source_lex.specs.declared.numbered.Symbol.TheVariants.{Word, Phrase}
use Rattle.source_lex.specs.declared.lexeme.LexKind.{LexKind}
use Rattle.chart_parse.specs.Growths.{HasPieces}
use Rattle.tree_pick.specs.Runs.{Cuts}

-- what a phrase grows into: a phrase that begins with it and ends there, and so on
pub data Growth : Type 0 where
  Stay : Growth
  Step : (production alternative : ℕ) (rest : Pieces) (end : ℕ) (more : Growth) → Growth

-- a growth from a c that ends at k to an n that ends at j
abbrev pub IsGrowth : (g : Numbered) (w : List LexKind) (n j c k : ℕ) → Growth → Type 0
IsGrowth g w n j c k Stay = (c ≡ n) × (k ≡ j)
IsGrowth g w n j c k (Step m a ps l more) =
    (rest : Alternative) × (alternative_of g m a ≡ Some (Phrase c ∷ rest))
    × ArePieces g w rest k l ps × IsGrowth g w n j m l more

-- a c that ends at k can grow into an n that ends at j
abbrev pub CanGrow : (g : Numbered) (w : List LexKind) (n j c k : ℕ) → Type 0
CanGrow g w n j c k = (growth : Growth) × IsGrowth g w n j c k growth

-- a phrase of b grows into no phrase of n but itself
abbrev pub GrowsAlone : (g : Numbered) (w : List LexKind) (b n : ℕ) → Type 0
GrowsAlone g w b n = (j k : ℕ) → CanGrow g w n j b k → (b ≡ n) × (k ≡ j)

-- the tree that a tree from the start grows into
abbrev pub plug : (start : ℕ) → PlainTree → Growth → PlainTree
plug start t Stay = t
plug start t (Step m a ps l more) = plug start (Node m a (Under t ps) start l) more

-- what stands to be chosen: the leaf of a phrase of n over i to j; the next step of a c that ends
-- at k and grows into an n that ends at j; the ends of phrases among parts over k to l
pub data Spot : Type 0 where
  Spanning : (n i j : ℕ) → Spot
  Growing : (c k n j : ℕ) → Spot
  Parts : (parts : Alternative) (k l : ℕ) → Spot

-- a leaf at i: alternative a of b is empty, or begins with a word; it ends at k
abbrev pub FitsLeaf : (g : Numbered) (w : List LexKind) (i b a k : ℕ) → Type 0
FitsLeaf g w i b a k =
    ((alternative_of g b a ≡ Some []) × (k ≡ i))
    ⊎ ((c : LexKind) × (rest : Alternative) × (alternative_of g b a ≡ Some (Word c ∷ rest))
    × (slice_get w i ≡ Some c) × HasPieces g w rest (i + 1) k)

-- a step from a c that ends at k: alternative a of m begins with it, and ends at l
abbrev pub FitsStep : (g : Numbered) (w : List LexKind) (c k m a l : ℕ) → Type 0
FitsStep g w c k m a l =
    (rest : Alternative) × (alternative_of g m a ≡ Some (Phrase c ∷ rest)) × HasPieces g w rest k l

-- the spot is reached from the root by choices that can be made
pub data Reached (g : Numbered) (w : List LexKind) (root : Spot) : Spot → Type 0 where
  Here : Reached g w root root
  Leafed : {n i j : ℕ} (b a k : ℕ) → Reached g w root (Spanning n i j) → FitsLeaf g w i b a k
      → Reached g w root (Growing b k n j)
  Begun : {n i j : ℕ} (b a k : ℕ) (c : LexKind) (rest : Alternative)
      → Reached g w root (Spanning n i j)
      → alternative_of g b a ≡ Some (Word c ∷ rest) → slice_get w i ≡ Some c → CanGrow g w n j b k
      → Reached g w root (Parts rest (i + 1) k)
  Grown : {c k n j : ℕ} (m a l : ℕ) → Reached g w root (Growing c k n j) → FitsStep g w c k m a l
      → Reached g w root (Growing m l n j)
  Followed : {c k n j : ℕ} (m a l : ℕ) (rest : Alternative) → Reached g w root (Growing c k n j)
      → alternative_of g m a ≡ Some (Phrase c ∷ rest) → CanGrow g w n j m l
      → Reached g w root (Parts rest k l)
  Read : {k l : ℕ} (c : LexKind) (rest : Alternative) → Reached g w root (Parts (Word c ∷ rest) k l)
      → slice_get w k ≡ Some c → Reached g w root (Parts rest (k + 1) l)
  First : {k l : ℕ} (m : ℕ) (rest : Alternative) (h : ℕ)
      → Reached g w root (Parts (Phrase m ∷ rest) k l)
      → HasPieces g w rest h l → Reached g w root (Spanning m k h)
  Rest : {k l : ℕ} (m : ℕ) (rest : Alternative) (h : ℕ)
      → Reached g w root (Parts (Phrase m ∷ rest) k l)
      → Has g w m k h → Reached g w root (Parts rest h l)

-- at most one choice at a spot
abbrev pub HasOneChoice : (g : Numbered) (w : List LexKind) → Spot → Type 0
HasOneChoice g w (Spanning n i j) = (b a k d e l : ℕ) → FitsLeaf g w i b a k → CanGrow g w n j b k
    → FitsLeaf g w i d e l → CanGrow g w n j d l → (b ≡ d) × (a ≡ e) × (k ≡ l)
HasOneChoice g w (Growing c k n j) =
    ((m a l p b h : ℕ) → FitsStep g w c k m a l → CanGrow g w n j m l
    → FitsStep g w c k p b h → CanGrow g w n j p h → (m ≡ p) × (a ≡ b) × (l ≡ h))
    × ((m a l : ℕ) → c ≡ n → k ≡ j → FitsStep g w c k m a l → CanGrow g w n j m l → ⊥)
HasOneChoice g w (Parts (Phrase m ∷ rest) k l) =
    (h o : ℕ) → Cuts g w m rest k l h → Cuts g w m rest k l o → h ≡ o
HasOneChoice g w (Parts _ k l) = Unit {0}

-- two different choices at a spot
abbrev pub HasTwoChoices : (g : Numbered) (w : List LexKind) → Spot → Type 0
HasTwoChoices g w (Spanning n i j) = (b : ℕ) × (a : ℕ) × (k : ℕ) × (d : ℕ) × (e : ℕ) × (l : ℕ)
    × FitsLeaf g w i b a k × CanGrow g w n j b k × FitsLeaf g w i d e l × CanGrow g w n j d l
    × ((b ≡ d) × (a ≡ e) × (k ≡ l) → ⊥)
HasTwoChoices g w (Growing c k n j) =
    ((m : ℕ) × (a : ℕ) × (l : ℕ) × (p : ℕ) × (b : ℕ) × (h : ℕ)
    × FitsStep g w c k m a l × CanGrow g w n j m l × FitsStep g w c k p b h × CanGrow g w n j p h
    × ((m ≡ p) × (a ≡ b) × (l ≡ h) → ⊥))
    ⊎ ((m : ℕ) × (a : ℕ) × (l : ℕ) × (c ≡ n) × (k ≡ j)
    × FitsStep g w c k m a l × CanGrow g w n j m l)
HasTwoChoices g w (Parts (Phrase m ∷ rest) k l) =
    (h : ℕ) × (o : ℕ) × (h ≢ o) × Cuts g w m rest k l h × Cuts g w m rest k l o
HasTwoChoices g w (Parts _ k l) = ⊥

-- two different trees, growths or lists of pieces at a spot
abbrev pub HasTwo : (g : Numbered) (w : List LexKind) → Spot → Type 0
HasTwo g w (Spanning n i j) =
    (t : PlainTree) × (u : PlainTree) × IsTree g w n i j t × IsTree g w n i j u × (t ≢ u)
HasTwo g w (Growing c k n j) =
    (t : Growth) × (u : Growth) × IsGrowth g w n j c k t × IsGrowth g w n j c k u × (t ≢ u)
HasTwo g w (Parts parts k l) =
    (t : Pieces) × (u : Pieces) × ArePieces g w parts k l t × ArePieces g w parts k l u × (t ≢ u)
