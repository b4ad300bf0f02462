-- One tree and two trees exclude each other.
use Rattle.std.proofs.Common.{List, sym, ◌∙◌}
use Rattle.source_lex.specs.Numbered.{Numbered}
use Rattle.source_lex.specs.Trees.{IsOneTree, HasNoTree, HasTwoTrees}
use Rattle.source_lex.specs.declared.lexeme.LexKind.{LexKind}
use Rattle.gram_form.specs.Trees.{PlainTree}

pub one_not_two : (g : Numbered) (w : List LexKind) (t : PlainTree) → IsOneTree g w t → HasTwoTrees g w → ⊥
one_not_two g w t one two = two.different (one.only two.first two.first_whole ∙ sym (one.only two.second two.second_whole))

pub one_not_none : (g : Numbered) (w : List LexKind) (t : PlainTree) → IsOneTree g w t → HasNoTree g w → ⊥
one_not_none g w t one none = none (t, one.whole)

pub two_not_none : (g : Numbered) (w : List LexKind) → HasTwoTrees g w → HasNoTree g w → ⊥
two_not_none g w two none = none (two.first, two.first_whole)
