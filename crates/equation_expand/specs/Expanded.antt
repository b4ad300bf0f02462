-- What expansion answers, and when each error comes.
use Rattle.std.specs.Prelude.{◌≡◌, ◌<◌, ◌≤◌, List, Ok, Err, Some, length, slice_get}
use Rattle.action_terms.specs.Numbering.{Listed, IsGraphOf, strays, node_limit}
use Rattle.action_terms.specs.Trees.{Tree, IsAction, preorder}
use Rattle.gram_form.specs.Trees.{PlainTree}
use Rattle.source_lex.specs.Lexemes.{PlainLexeme}
use Rattle.meta_check.specs.Checked.{PlainDescription}
use Rattle.equation_expand.specs.Meaning.{NoEquation, LargeNumeral, expansion}
use Rattle.equation_expand.specs.declared.errors.ExpandError.{ExpandError}
use Rattle.equation_expand.specs.declared.errors.ExpandError.TheVariants as error

-- the tree of a source means the action
pub record Means (d : PlainDescription) (ls : List PlainLexeme) (t : PlainTree) (action : Tree) : Type 0 where
  pub action_is : IsAction action
  pub meaning : expansion d ls t ≡ Ok (preorder action)

-- the graph is that of the action that the tree means
abbrev pub IsExpanded : PlainDescription → List PlainLexeme → PlainTree → Listed → Type 0
IsExpanded d ls t g = (action : Tree) × Means d ls t action × IsGraphOf g action

-- want of memory is free to come. An application without an equation, or a numeral that is too large, is the first that is met in the
-- order of the action's text; only where there is neither come too many nodes, and only where they are not too many a stray `unfold`
abbrev pub IsExpandError : PlainDescription → List PlainLexeme → PlainTree → ExpandError → Type 0
IsExpandError d ls t error.Memory = Unit {0}
IsExpandError d ls t (error.Uncovered function production alternative) =
    expansion d ls t ≡ Err (NoEquation function production alternative)
IsExpandError d ls t (error.BigNumeral offset) = expansion d ls t ≡ Err (LargeNumeral offset)
IsExpandError d ls t error.Nodes =
    (action : Tree) × Means d ls t action × (node_limit < length (preorder action))
IsExpandError d ls t (error.StrayUnfold node) =
    (action : Tree) × Means d ls t action × (length (preorder action) ≤ node_limit)
    × (slice_get (strays action) 0 ≡ Some node)
