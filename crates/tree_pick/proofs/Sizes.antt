-- How large trees are, and that a tree says where it ends.
use Rattle.std.proofs.Common.{◌≡◌, ℕ, ◌+◌, List, sym, ◌∙◌}
use Rattle.gram_form.specs.Trees.{PlainTree, Node, Pieces, End, Lexeme, Under}
use Rattle.source_lex.specs.Numbered.{Numbered}
use Rattle.source_lex.specs.Trees.{IsTree}
use Rattle.source_lex.specs.declared.lexeme.LexKind.{LexKind}

pub tree_end : (g : Numbered) (w : List LexKind) (n m i k j l : ℕ) (t : PlainTree) → IsTree g w n i j t → IsTree g w m k l t → j ≡ l
tree_end g w n m i k j l (Node p a ps s e) x y = sym x.2 ∙ y.2

-- how many cells a tree has
abbrev mutual
  pub tree_size : PlainTree → ℕ
  tree_size (Node n a ps s e) = 1 + pieces_size ps

  pub pieces_size : Pieces → ℕ
  pieces_size End = 0
  pieces_size (Lexeme x ps) = 1 + pieces_size ps
  pieces_size (Under t ps) = 1 + tree_size t + pieces_size ps
