-- What a choice is, and what can be chosen at each spot.
use Rattle.std.specs.Prelude.{◌≡◌, ◌≢◌, ◌≤◌, ◌⊎◌, ◌↔◌, ℕ, ◌+◌, List, [], ◌∷◌, length, slice_get, Option, Some, None, true, false}
use Rattle.source_lex.specs.Numbered.{Alternative, Numbered}
use Rattle.source_lex.specs.declared.numbered.Symbol.TheVariants.{Word, Phrase}
use Rattle.source_lex.specs.declared.lexeme.LexKind.{LexKind}
use Rattle.chart_parse.specs.Growths.{HasPieces}
use Rattle.tree_pick.specs.declared.phrases.Taken.{Taken}
use Rattle.tree_pick.specs.declared.phrases.Choice.{Choice}
use Rattle.tree_pick.specs.declared.phrases.Corner.{Corner}
use Rattle.tree_pick.specs.declared.phrases.Corner.TheVariants.{Leaf, Branch}
use Rattle.tree_pick.specs.Spines.{CanGrow, FitsLeaf, FitsStep}

-- the choice can be made, and is said to be the only one exactly where it is
abbrev pub IsChoice : {T : Type 0} → (T → Type 0) → Choice T → Type 0
IsChoice {T} Fits c =
    Fits c.first
    × (c.only ≡ true → (x : T) → Fits x → x ≡ c.first)
    × (c.only ≡ false → (x : T) × Fits x × (x ≢ c.first))

-- the leaf of a phrase of n over i to j
abbrev pub CanLeaf : (g : Numbered) (w : List LexKind) (n i j : ℕ) → Taken → Type 0
CanLeaf g w n i j x =
    FitsLeaf g w i x.production x.alternative x.end × CanGrow g w n j x.production x.end

-- the next step of a c that ends at k and grows into an n that ends at j, or none where it is that
abbrev pub CanStep : (g : Numbered) (w : List LexKind) (n j c k : ℕ) → Option Taken → Type 0
CanStep g w n j c k None = (c ≡ n) × (k ≡ j)
CanStep g w n j c k (Some x) =
    FitsStep g w c k x.production x.alternative x.end × CanGrow g w n j x.production x.end

-- the place of the corner is at most the number of lexemes
abbrev pub IsWithin : (w : List LexKind) → Corner → Type 0
IsWithin w (Leaf i) = i ≤ length w
IsWithin w (Branch c k) = k ≤ length w

-- parts that begin so lead to e
abbrev pub Begins : (g : Numbered) (w : List LexKind) → Corner → Alternative → (e : ℕ) → Type 0
Begins g w (Leaf i) parts e =
    ((parts ≡ []) × (e ≡ i))
    ⊎ ((c : LexKind) × (rest : Alternative) × (parts ≡ Word c ∷ rest)
    × (slice_get w i ≡ Some c) × HasPieces g w rest (i + 1) e)
Begins g w (Branch c k) parts e =
    (rest : Alternative) × (parts ≡ Phrase c ∷ rest) × HasPieces g w rest k e

-- the parts don't begin so
abbrev pub BeginsNot : (g : Numbered) (w : List LexKind) → Corner → Alternative → Type 0
BeginsNot g w corner parts = (e : ℕ) → Begins g w corner parts e → ⊥

-- the parts begin so, and the rest is to be read from the place
abbrev pub IsBehind : (g : Numbered) (w : List LexKind) → Corner → Alternative
    → (rest : Alternative) (at : ℕ) → Type 0
IsBehind g w corner parts rest at =
    (at ≤ length w) × ((e : ℕ) → Begins g w corner parts e ↔ HasPieces g w rest at e)

-- alternative a of b, with an end to which it leads, and from which it grows into an n that ends
-- at j
abbrev pub Takes : (g : Numbered) (w : List LexKind) (b a : ℕ) → (ℕ → Type 0) → (n j : ℕ) → Taken
    → Type 0
Takes g w b a Ends n j x =
    (x.production ≡ b) × (x.alternative ≡ a) × Ends x.end × CanGrow g w n j b x.end

-- an alternative that begins so and ends there
abbrev pub Fits : (g : Numbered) (w : List LexKind) → Corner → (b a e : ℕ) → Type 0
Fits g w (Leaf i) b a e = FitsLeaf g w i b a e
Fits g w (Branch c k) b a e = FitsStep g w c k b a e

-- what can be taken: it begins so, and grows into an n that ends at j
abbrev pub CanTake : (g : Numbered) (w : List LexKind) → Corner → (n j : ℕ) → Taken → Type 0
CanTake g w corner n j x =
    Fits g w corner x.production x.alternative x.end × CanGrow g w n j x.production x.end
