-- The steps of building.
use Rattle.std.proofs.Common.{◌≡◌, ◌≤◌, length, inl, inr, ℕ, ◌+◌, List, [], ◌∷◌, ◌++◌, slice_get, Some, Option, Contains, refl, sym, ap, subst, ◌∙◌, Bor, Bool, true, false, cond, arith}
use Rattle.std.proofs.lemmas.Bool.Decides.{nat_tests}
use Rattle.std.proofs.lemmas.List.Elements.{Contains-push_cases}
use Rattle.source_lex.specs.declared.lexeme.LexKind.{LexKind}
use Rattle.source_lex.specs.declared.numbered.Symbol.TheVariants.{Word, Phrase}
use Rattle.tree_pick.specs.declared.phrases.Span.{Span}
use Rattle.tree_pick.specs.declared.phrases.Taken.{Taken}
use Rattle.gram_form.specs.declared.tree.Tree.{Tree}
use Rattle.gram_form.specs.declared.tree.TreePart.{TreePart, Sub, Word as At}
use Rattle.gram_form.specs.Trees.{Node, Pieces, End, Lexeme, Under, plain_pieces, plain_tree}
use Rattle.source_lex.specs.Numbered.{Alternative, Numbered, alternative_of}
use Rattle.source_lex.specs.Trees.{IsTree, ArePieces, Has}
use Rattle.chart_parse.specs.Growths.{HasPieces}
use Rattle.tree_pick.specs.Choices.{CanLeaf}
use Rattle.tree_pick.specs.Built.{HaveTrees, IsTreeOf, same_span}
use Rattle.tree_pick.proofs.Plain.{all_before, before_sub, all_more}
use Rattle.chart_parse.proofs.LeftCorners.{word_pieces}

-- what is written so far is the front of pieces of all the parts, where what is to come is pieces of qs
abbrev pub IsFront : Numbered → List LexKind → Alternative → ℕ → ℕ → Alternative → ℕ → List TreePart → Type 0
IsFront g w parts start end qs k more = (ps : Pieces) → ArePieces g w qs k end ps → ArePieces g w parts start end (all_before more ps)

pub word_front : (g : Numbered) (w : List LexKind) (parts : Alternative) (start end : ℕ) (c : LexKind) (rest qs : Alternative) (k : ℕ) (more : List TreePart) → qs ≡ Word c ∷ rest → slice_get w k ≡ Some c → IsFront g w parts start end qs k more → IsFront g w parts start end rest (k + 1) (more ++ At k ∷ [])
word_front g w parts start end c rest qs k more e at front ps x = subst (ArePieces g w parts start end) (sym (all_more more (At k) ps)) (front (Lexeme k ps) (refl, c, rest, e, at, x))

pub phrase_front : (g : Numbered) (w : List LexKind) (parts : Alternative) (start end m : ℕ) (rest qs : Alternative) (k h : ℕ) (more : List TreePart) (t : Bor Tree) → qs ≡ Phrase m ∷ rest → IsTreeOf g w m k h t.now → IsFront g w parts start end qs k more → IsFront g w parts start end rest h (more ++ Sub t ∷ [])
phrase_front g w parts start end m rest qs k h more t e is front ps x =
    subst (ArePieces g w parts start end) (sym (all_more more (Sub t) ps ∙ ap (all_before more) (before_sub t ps))) (front (Under (plain_tree t.now) ps) (m, rest, h, e, is, x))

pub stack_more : (g : Numbered) (w : List LexKind) (S T : List Span) (y : Span) → T ≡ S ++ y ∷ [] → HaveTrees g w S → Has g w y.nonterm y.start y.end → y.start ≤ length w → HaveTrees g w T
stack_more g w S T y e all has within x there = elim (Contains-push_cases S y x (subst (λ (l : List Span). Contains l x) e there)) [
  | inl z ↦ all x z
  | inr z ↦ subst (λ (s : Span). Has g w s.nonterm s.start s.end × (s.start ≤ length w)) z (has, within)
]

-- a leaf as pieces of its alternative
pub leaf_pieces : (g : Numbered) (w : List LexKind) (n i j : ℕ) (x : Taken) (parts : Alternative) → alternative_of g x.production x.alternative ≡ Some parts → CanLeaf g w n i j x → HasPieces g w parts i x.end
leaf_pieces g w n i j x parts e (inl h, can) = let q : Some parts ≡ Some [] = sym e ∙ h.0 in let p : parts ≡ [] = cc in (End, (p, sym h.1))
leaf_pieces g w n i j x parts e (inr (c, rest, f, at, ps), can) =
    let q : Some parts ≡ Some (Word c ∷ rest) = sym e ∙ f in
    let p : parts ≡ Word c ∷ rest = cc in
    subst (λ (r : Alternative). HasPieces g w r i x.end) (sym p) (word_pieces g w c rest i x.end at ps)

-- a step over a tree that stands in the arena
pub step_tree : (g : Numbered) (w : List LexKind) (from i k : ℕ) (x : Taken) (parts rest : Alternative) (t : Bor Tree) (more items : List TreePart) → alternative_of g x.production x.alternative ≡ Some parts → parts ≡ Phrase from ∷ rest → IsTreeOf g w from i k t.now
    → ArePieces g w rest k x.end (plain_pieces more) → items ≡ Sub t ∷ more → IsTree g w x.production i x.end (Node x.production x.alternative (plain_pieces items) i x.end)
step_tree g w from i k x parts rest t more items e f is ps h = (
  refl,
  refl,
  refl,
  parts,
  e,
  subst (ArePieces g w parts i x.end) (sym (ap plain_pieces h ∙ before_sub t (plain_pieces more))) (from, rest, k, f, is, ps),
)
