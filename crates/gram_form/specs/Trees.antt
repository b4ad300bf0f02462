-- Trees of phrases outside an arena.
use Rattle.std.specs.Prelude.{ℕ, List, [], ◌∷◌}
use Rattle.gram_form.specs.declared.tree.Tree.{Tree}
use Rattle.gram_form.specs.declared.tree.TreePart.{TreePart, Word, Sub', Row_of-TreePart, end_of-TreePart, more_of-TreePart}

mutual
  -- an alternative of a production over the lexemes from start to end
  pub data PlainTree : Type 0 where
    Node : (production alternative : ℕ) (parts : Pieces) (start end : ℕ) → PlainTree

  -- what stands for the parts of an alternative: lexemes by number, and phrases
  pub data Pieces : Type 0 where
    End : Pieces
    Lexeme : (number : ℕ) (rest : Pieces) → Pieces
    Under : (tree : PlainTree) (rest : Pieces) → Pieces

-- the pieces under a node of an arena
abbrev pub pieces : {m : _} → Row_of-TreePart m → Pieces
pieces end_of-TreePart = End
pieces (more_of-TreePart (Word x) rest) = Lexeme x (pieces rest)
pieces (more_of-TreePart (Sub' pointer p a q shape row s e) rest) = Under (Node p a (pieces row) s e) (pieces rest)

-- a piece in front of others
abbrev pub before : TreePart → Pieces → Pieces
before (Word x) rest = Lexeme x rest
before (Sub' pointer p a q shape row s e) rest = Under (Node p a (pieces row) s e) rest

abbrev pub plain_pieces : List TreePart → Pieces
plain_pieces [] = End
plain_pieces (part ∷ parts) = before part (plain_pieces parts)

-- a tree of an arena, without places in memory
abbrev pub plain_tree : Tree → PlainTree
plain_tree t = Node t.production t.alternative (plain_pieces t.parts.now) t.start t.end
