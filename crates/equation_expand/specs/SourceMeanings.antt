-- What the bytes of a source mean by a checked description, and why they mean nothing, in the order of what is looked at.
use Rattle.std.specs.Prelude.{◌<◌, ◌≤◌, ℕ, List, length}
use Rattle.acg_base.specs.declared.limits.TheConstants.{LIMIT_LEXEMES}
use Rattle.action_terms.specs.Trees.{Tree}
use Rattle.gram_form.specs.Trees.{PlainTree}
use Rattle.source_lex.specs.Lexemes.{PlainLexeme, AreLexemes, IsBadByte}
use Rattle.source_lex.specs.Numbered.{numbered}
use Rattle.source_lex.specs.Trees.{HasNoTree, HasTwoTrees, IsOneTree, kinds_of}
use Rattle.meta_check.specs.Checked.{PlainDescription}
use Rattle.equation_expand.specs.Expanded.{IsExpandError, Means}
use Rattle.equation_expand.specs.declared.errors.ExpandError.{ExpandError}

-- the source is these lexemes, within the limit, and the tree is the one over them
pub record IsParsed (d : PlainDescription) (source : List ℕ) (ls : List PlainLexeme) (t : PlainTree) : Type 0 where
  pub lexemes : AreLexemes d.grammar.literals source ls
  pub few : length ls ≤ LIMIT_LEXEMES
  pub tree : IsOneTree (numbered d.grammar) (kinds_of ls) t

-- the source means the action: it has one tree, and that means it
abbrev pub SourceMeans : PlainDescription → (source : List ℕ) → Tree → Type 0
SourceMeans d source action = (ls : List PlainLexeme) × (t : PlainTree) × IsParsed d source ls t × Means d ls t action

-- why a source means no action
pub data SourceCause : Type 0 where
  -- no lexeme begins at the offset, and the source has none
  Byte : (offset : ℕ) → SourceCause
  -- it is more lexemes than the limit
  Lexemes : SourceCause
  -- no tree stands over its lexemes, or two different ones do
  NoTree Ambiguous : SourceCause
  -- what expansion answers for its tree
  Expansion : ExpandError → SourceCause

-- each cause is looked at only where none before it holds, so two never come together
abbrev pub IsSourceCause : PlainDescription → (source : List ℕ) → SourceCause → Type 0
IsSourceCause d source (Byte offset) =
    IsBadByte d.grammar.literals source offset × ((ls : List PlainLexeme) → AreLexemes d.grammar.literals source ls → ⊥)
IsSourceCause d source Lexemes =
    (ls : List PlainLexeme) × AreLexemes d.grammar.literals source ls × (LIMIT_LEXEMES < length ls)
IsSourceCause d source NoTree =
    (ls : List PlainLexeme) × AreLexemes d.grammar.literals source ls × (length ls ≤ LIMIT_LEXEMES)
    × HasNoTree (numbered d.grammar) (kinds_of ls)
IsSourceCause d source Ambiguous =
    (ls : List PlainLexeme) × AreLexemes d.grammar.literals source ls × (length ls ≤ LIMIT_LEXEMES)
    × HasTwoTrees (numbered d.grammar) (kinds_of ls)
IsSourceCause d source (Expansion error) =
    (ls : List PlainLexeme) × (t : PlainTree) × IsParsed d source ls t × IsExpandError d ls t error
