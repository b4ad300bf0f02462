-- When each answer of `pick` comes that isn't the tree.
use Rattle.std.specs.Prelude.{List}
use Rattle.source_lex.specs.Numbered.{Numbered}
use Rattle.source_lex.specs.Trees.{HasNoTree, HasTwoTrees}
use Rattle.source_lex.specs.declared.lexeme.LexKind.{LexKind}
use Rattle.tree_pick.specs.declared.errors.TreeError.{TreeError}
use Rattle.tree_pick.specs.declared.errors.TreeError.TheVariants.{Memory, NoTree, Ambiguous}

-- want of memory is free to come; no tree comes where there is none over all lexemes, and ambiguous
-- where two different ones are
abbrev pub IsTreeError : (g : Numbered) (w : List LexKind) → TreeError → Type 0
IsTreeError g w Memory = Unit {0}
IsTreeError g w NoTree = HasNoTree g w
IsTreeError g w Ambiguous = HasTwoTrees g w
