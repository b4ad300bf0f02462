-- A chart as its callers see it.
use Rattle.std.specs.Prelude.{List}
use Rattle.source_lex.specs.Numbered.{Numbered}
use Rattle.source_lex.specs.declared.lexeme.LexKind.{LexKind}

-- the grammar, and the kinds of the lexemes
pub record PlainChart : Type 0 where
  pub grammar : Numbered
  pub kinds : List LexKind
