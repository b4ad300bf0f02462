-- A tree under a part, seen whole.
use Rattle.std.proofs.Common.{◌≡◌, refl, ap, ◌∙◌, sym, Bor, List, [], ◌∷◌, ◌++◌}
use Rattle.gram_form.specs.declared.tree.Tree.{Tree}
use Rattle.gram_form.specs.declared.tree.TreePart.{TreePart, Word, Sub, Sub', Row_of-TreePart, end_of-TreePart, more_of-TreePart, items-the_row-TreePart, items_hidden-the_row-TreePart-0}
use Rattle.gram_form.specs.Trees.{Node, Pieces, End, Lexeme, Under, pieces, before, plain_pieces, plain_tree}

plain_row : (n : _) (row : Row_of-TreePart n) → plain_pieces (items-the_row-TreePart n row) ≡ pieces row
plain_row n end_of-TreePart = refl
plain_row n (more_of-TreePart (Word x) rest) = ap (λ r. Lexeme x r) (plain_row _ rest)
plain_row n (more_of-TreePart (Sub' pointer p a q shape row s e) rest) = ap (λ r. Under (Node p a (pieces row) s e) r) (plain_row _ rest)

abbrev row_of : TreePart → (n : _) × Row_of-TreePart n
row_of (Sub' pointer p a q shape row s e) = (_, row)
row_of _ = (_, end_of-TreePart)

pub before_sub : (t : Bor Tree) (rest : Pieces) → before (Sub t) rest ≡ Under (plain_tree t.now) rest
before_sub t rest =
    let row = row_of (Sub t) in
    ap (λ r. Under (Node t.now.production t.now.alternative r t.now.start t.now.end) rest) (sym (plain_row row.0 row.1) ∙ ap plain_pieces (items_hidden-the_row-TreePart-0 t.now.parts.now))

-- parts in front of pieces
abbrev pub all_before : List TreePart → Pieces → Pieces
all_before [] rest = rest
all_before (part ∷ parts) rest = before part (all_before parts rest)

-- one part more
pub all_more : (ps : List TreePart) (x : TreePart) (rest : Pieces) → all_before (ps ++ x ∷ []) rest ≡ all_before ps (before x rest)
all_more [] x rest = refl
all_more (p ∷ ps) x rest = ap (before p) (all_more ps x rest)

pub all_plain : (ps : List TreePart) → all_before ps End ≡ plain_pieces ps
all_plain [] = refl
all_plain (p ∷ ps) = ap (before p) (all_plain ps)
