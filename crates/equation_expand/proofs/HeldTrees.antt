-- Trees below trees.
use Rattle.std.proofs.Common.{◌≡◌, ◌∙◌, ◌⊎◌, inl, inr, ℕ, zero, suc, Bor, List, [], ◌∷◌, Some, refl, sym, ap, subst}
use Rattle.std.specs.Prelude.{slice_get}
use Rattle.gram_form.specs.declared.tree.Tree.{Tree}
use Rattle.gram_form.specs.declared.tree.TreePart.{TreePart, Word, Sub, Sub', Row_of-TreePart, end_of-TreePart, more_of-TreePart, items-the_row-TreePart, items_hidden-the_row-TreePart-0}
use Rattle.gram_form.specs.Trees.{PlainTree, Node, Pieces, End, Lexeme, Under, pieces, before, plain_pieces, plain_tree}
use Rattle.source_lex.specs.Uniform.{Holds, HoldPieces}
use Rattle.equation_expand.specs.Meaning.{Part, parts_of}
use Rattle.equation_expand.specs.Meaning as meaning
use Rattle.equation_expand.specs.Seen.{seen_part}
use Rattle.equation_expand.specs.Sources.{PlainSource, meaning_in}

plain_row : (n : _) (row : Row_of-TreePart n) → plain_pieces (items-the_row-TreePart n row) ≡ pieces row
plain_row n end_of-TreePart = refl
plain_row n (more_of-TreePart (Word x) rest) = ap (λ r. Lexeme x r) (plain_row _ rest)
plain_row n (more_of-TreePart (Sub' pointer p a q shape row s e) rest) = ap (λ r. Under (Node p a (pieces row) s e) r) (plain_row _ rest)

abbrev row_of : TreePart → (n : _) × Row_of-TreePart n
row_of (Sub' pointer p a q shape row s e) = (_, row)
row_of _ = (_, end_of-TreePart)

pub before_sub : (t : Bor Tree) (rest : Pieces) → before (Sub t) rest ≡ Under (plain_tree t.now) rest
before_sub t rest =
    let row = row_of (Sub t) in
    ap (λ r. Under (Node t.now.production t.now.alternative r t.now.start t.now.end) rest) (sym (plain_row row.0 row.1) ∙ ap plain_pieces (items_hidden-the_row-TreePart-0 t.now.parts.now))

-- ---- what a part is for a template

-- the parts of a phrase are what the parts of its tree are
pub seen-parts : (s : PlainSource) (xs : List TreePart) → parts_of s.description s.lexemes (plain_pieces xs) ≡ Rattle.std.specs.Prelude.map (seen_part s) xs
seen-parts s [] = refl
seen-parts s (Word n ∷ xs) = ap (λ ps. seen_part s (Word n) ∷ ps) (seen-parts s xs)
seen-parts s (Sub' pointer p a q shape row i j ∷ xs) = ap (λ ps. seen_part s (Sub' pointer p a q shape row i j) ∷ ps) (seen-parts s xs)

abbrev first-part : PlainSource → Pieces → Part
first-part s End = meaning.Word Rattle.std.proofs.Common.None
first-part s (Lexeme n rest) = meaning.Word (slice_get s.lexemes n)
first-part s (Under t rest) = meaning.Phrase (meaning_in s t)

first-is : (s : PlainSource) (x : TreePart) → seen_part s x ≡ first-part s (before x End)
first-is s (Word n) = refl
first-is s (Sub' pointer p a q shape row i j) = refl

-- a phrase
pub seen-phrase : (s : PlainSource) (t : Bor Tree) → seen_part s (Sub t) ≡ meaning.Phrase (meaning_in s (plain_tree t.now))
seen-phrase s t = first-is s (Sub t) ∙ ap (first-part s) (before_sub t End)

-- ---- what a tree holds

pub holds-itself : (t : PlainTree) → Holds t t
holds-itself (Node p a ps i j) = inl refl

mutual
  pub holds-below : (t u v : PlainTree) → Holds t u → Holds u v → Holds t v
  holds-below (Node p a ps i j) u v (inl e) h = subst (λ x. Holds x v) (sym e) h
  holds-below (Node p a ps i j) u v (inr k) h = inr (pieces-below ps u v k h)

  pieces-below : (ps : Pieces) (u v : PlainTree) → HoldPieces ps u → Holds u v → HoldPieces ps v
  pieces-below End u v k h = k
  pieces-below (Lexeme n rest) u v k h = pieces-below rest u v k h
  pieces-below (Under t rest) u v (inl k) h = inl (holds-below t u v k h)
  pieces-below (Under t rest) u v (inr k) h = inr (pieces-below rest u v k h)

behind : (x : TreePart) (rest : Pieces) (u : PlainTree) → HoldPieces rest u → HoldPieces (before x rest) u
behind (Word n) rest u h = h
behind (Sub' pointer p a q shape row i j) rest u h = inr h

part-held : (xs : List TreePart) (k : ℕ) (t : Bor Tree) → slice_get xs k ≡ Some (Sub t) → HoldPieces (plain_pieces xs) (plain_tree t.now)
part-held [] k t h = absurd (cc)
part-held (x ∷ xs) zero t h =
    let same : x ≡ Sub t = cc in
    subst (λ p. HoldPieces p (plain_tree t.now)) (sym (ap (λ y. before y (plain_pieces xs)) same ∙ before_sub t (plain_pieces xs))) (inl (holds-itself (plain_tree t.now)))
part-held (x ∷ xs) (suc k) t h = behind x (plain_pieces xs) (plain_tree t.now) (part-held xs k t h)

-- a phrase directly under another
pub holds-part : (o : Tree) (t : Bor Tree) (k : ℕ) → slice_get o.parts.now k ≡ Some (Sub t) → Holds (plain_tree o) (plain_tree t.now)
holds-part o t k h = inr (part-held o.parts.now k t h)
