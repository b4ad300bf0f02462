-- Where each spot on the list was looked at and has one choice, there is one tree.
use Rattle.std.proofs.Common.{◌≡◌, inr, ℕ, ◌+◌, List, [], ◌∷◌, Some, Contains, arith}
use Rattle.source_lex.specs.declared.lexeme.LexKind.{LexKind}
use Rattle.source_lex.specs.declared.numbered.Symbol.TheVariants.{Word, Phrase}
use Rattle.tree_pick.specs.declared.phrases.Span.{Span}
use Rattle.gram_form.specs.Trees.{PlainTree, Node}
use Rattle.source_lex.specs.Numbered.{Alternative, Numbered, alternative_of}
use Rattle.source_lex.specs.Trees.{IsTree, Has}
use Rattle.chart_parse.specs.Growths.{HasPieces}
use Rattle.tree_pick.specs.Spines.{Spot, Spanning, Growing, Parts, CanGrow, FitsLeaf, FitsStep, Reached, Here, Leafed, Begun, Grown, Followed, Read, First, Rest, HasOneChoice, plug, Step}
use Rattle.tree_pick.specs.Longer.{IsKept}
use Rattle.tree_pick.specs.Walk.{span, WorkedParts, WorkedGrowth, Worked, WorkedSpan}
use Rattle.tree_pick.proofs.SpinePick.{one_tree}
use Rattle.tree_pick.proofs.Sizes.{tree_size}
use Rattle.tree_pick.proofs.SpineTwo.{leaf_tree, plugged}
use Rattle.chart_parse.proofs.LeftCorners.{word_pieces, phrase_pieces}

-- a longer list does as well
pub parts_kept : (g : Numbered) (w : List LexKind) (S T : List Span) → IsKept S T → (qs : Alternative) (k l : ℕ) → WorkedParts g w S qs k l → WorkedParts g w T qs k l
parts_kept g w S T kept [] k l h = tt
parts_kept g w S T kept (Word c ∷ rest) k l h = parts_kept g w S T kept rest (k + 1) l h
parts_kept g w S T kept (Phrase m ∷ rest) k l h = (h.0, λ o cut. (kept (span m k o) (h.1 o cut).0, parts_kept g w S T kept rest o l (h.1 o cut).1))

pub growth_kept : (g : Numbered) (w : List LexKind) (S T : List Span) → IsKept S T → (n j c k : ℕ) → WorkedGrowth g w S n j c k → WorkedGrowth g w T n j c k
growth_kept g w S T kept n j c k (Worked one parts more) =
    Worked one (λ m a l rest e ps can. parts_kept g w S T kept rest k l (parts m a l rest e ps can)) (λ m a l fits can. growth_kept g w S T kept n j m l (more m a l fits can))

pub span_kept : (g : Numbered) (w : List LexKind) (S T : List Span) → IsKept S T → (n i j : ℕ) → WorkedSpan g w S n i j → WorkedSpan g w T n i j
span_kept g w S T kept n i j h = (h.0, λ b a k fits can. (growth_kept g w S T kept n j b k (h.1 b a k fits can).0, λ c rest e f. parts_kept g w S T kept rest (i + 1) k ((h.1 b a k fits can).1 c rest e f)))

-- a leaf and what it grows into is a tree
pub leaf_has : (g : Numbered) (w : List LexKind) (n i j b a k : ℕ) → FitsLeaf g w i b a k → CanGrow g w n j b k → Has g w n i j
leaf_has g w n i j b a k fits can = let t = leaf_tree g w i b a k fits in (plug i (Node b a t.pieces i k) can.0, plugged g w n j b i k (Node b a t.pieces i k) can.0 t.is_tree can.1)

pub step_grows : (g : Numbered) (w : List LexKind) (n j c k m a l : ℕ) → FitsStep g w c k m a l → CanGrow g w n j m l → CanGrow g w n j c k
step_grows g w n j c k m a l fits can = (Step m a fits.2.0 l can.0, (fits.0, fits.1, fits.2.1, can.1))

one_worked : (g : Numbered) (w : List LexKind) (S : List Span) (n j c k : ℕ) → WorkedGrowth g w S n j c k → HasOneChoice g w (Growing c k n j)
one_worked g w S n j c k (Worked one parts more) = one

parts_worked : (g : Numbered) (w : List LexKind) (S : List Span) (n j c k : ℕ) → WorkedGrowth g w S n j c k → (m a l : ℕ) (rest : Alternative) → alternative_of g m a ≡ Some (Phrase c ∷ rest) → HasPieces g w rest k l → CanGrow g w n j m l → WorkedParts g w S rest k l
parts_worked g w S n j c k (Worked one parts more) = parts

more_worked : (g : Numbered) (w : List LexKind) (S : List Span) (n j c k : ℕ) → WorkedGrowth g w S n j c k → (m a l : ℕ) → FitsStep g w c k m a l → CanGrow g w n j m l → WorkedGrowth g w S n j m l
more_worked g w S n j c k (Worked one parts more) = more

-- a spot that can be finished was looked at
abbrev Seen : Numbered → List LexKind → List Span → Spot → Type 0
Seen g w S (Spanning n i j) = Has g w n i j → Contains S (span n i j)
Seen g w S (Growing c k n j) = CanGrow g w n j c k → WorkedGrowth g w S n j c k
Seen g w S (Parts qs k l) = HasPieces g w qs k l → WorkedParts g w S qs k l

module _ (g : Numbered) (w : List LexKind) (S : List Span) (n0 i0 j0 : ℕ) (root_in : Contains S (span n0 i0 j0)) (all : (n i j : ℕ) → Contains S (span n i j) → WorkedSpan g w S n i j) where
  seen : (p : Spot) → Reached g w (Spanning n0 i0 j0) p → Seen g w S p
  seen p Here = λ _. root_in
  seen p (Leafed {n = n} {i = i} {j = j} b a k at fits) = λ can. ((all n i j (seen (Spanning n i j) at (leaf_has g w n i j b a k fits can))).1 b a k fits can).0
  seen p (Begun {n = n} {i = i} {j = j} b a k c rest at e f can) = λ ps.
      let fits : FitsLeaf g w i b a k = inr (c, rest, e, f, ps) in
      ((all n i j (seen (Spanning n i j) at (leaf_has g w n i j b a k fits can))).1 b a k fits can).1 c rest e f
  seen p (Grown {c = c} {k = k} {n = n} {j = j} m a l at fits) = λ can. more_worked g w S n j c k (seen (Growing c k n j) at (step_grows g w n j c k m a l fits can)) m a l fits can
  seen p (Followed {c = c} {k = k} {n = n} {j = j} m a l rest at e can) = λ ps. parts_worked g w S n j c k (seen (Growing c k n j) at (step_grows g w n j c k m a l (rest, e, ps) can)) m a l rest e ps can
  seen p (Read {k = k} {l = l} c rest at e) = λ ps. seen (Parts (Word c ∷ rest) k l) at (word_pieces g w c rest k l e ps)
  seen p (First {k = k} {l = l} m rest h at ps) = λ t. ((seen (Parts (Phrase m ∷ rest) k l) at (phrase_pieces g w m rest k h l t ps)).1 h (t, ps)).0
  seen p (Rest {k = k} {l = l} m rest h at t) = λ ps. ((seen (Parts (Phrase m ∷ rest) k l) at (phrase_pieces g w m rest k h l t ps)).1 h (t, ps)).1

  one_choice : (p : Spot) → Reached g w (Spanning n0 i0 j0) p → HasOneChoice g w p
  one_choice (Spanning n i j) at = λ b a k d e l fits can. (all n i j (seen (Spanning n i j) at (leaf_has g w n i j b a k fits can))).0 b a k d e l fits can
  one_choice (Growing c k n j) at = (
    λ m a l p b h fits can. (one_worked g w S n j c k (seen (Growing c k n j) at (step_grows g w n j c k m a l fits can))).0 m a l p b h fits can,
    λ m a l e f fits can. (one_worked g w S n j c k (seen (Growing c k n j) at (step_grows g w n j c k m a l fits can))).1 m a l e f fits can,
  )
  one_choice (Parts [] k l) at = tt
  one_choice (Parts (Word c ∷ rest) k l) at = tt
  one_choice (Parts (Phrase m ∷ rest) k l) at = λ h o x y. (seen (Parts (Phrase m ∷ rest) k l) at (phrase_pieces g w m rest k h l x.0 x.1)).0 h o x y

  -- the root has one tree
  pub one_root : (t u : PlainTree) → IsTree g w n0 i0 j0 t → IsTree g w n0 i0 j0 u → t ≡ u
  one_root t u x y = one_tree g w (Spanning n0 i0 j0) one_choice (tree_size t) n0 i0 j0 Here t u (omega arith) x y
