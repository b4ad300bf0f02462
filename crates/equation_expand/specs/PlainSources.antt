-- A source without its places in memory.
use Rattle.std.specs.Prelude.{map}
use Rattle.gram_form.specs.Trees.{plain_tree}
use Rattle.source_lex.specs.Lexemes.{plain_lexeme}
use Rattle.equation_expand.specs.Sources.{PlainSource}
use Rattle.equation_expand.specs.declared.source.Source.{Source}

abbrev pub plain_source : Source → PlainSource
plain_source s = record {
  description = s.description.now;
  lexemes = map plain_lexeme s.lexemes.now;
  tree = plain_tree s.tree.now;
}
