use Rattle.std.proofs.Common.{◌∙◌, length, sym, ap, arith}
use Rattle.std.proofs.lemmas.List.{length-map}
use Rattle.source_lex.specs.Numbered.{plain_numbered, alternatives_of}
use Rattle.gram_form.specs.Grammars.{names_of}
use Rattle.source_lex.specs.declared.lexeme.Lexeme.{Lexeme}
use Rattle.source_lex.specs.Lexemes.{PlainLexeme, plain_lexeme}
use Rattle.source_lex.specs.Trees.{kinds_of}
use Rattle.std.proofs.lemmas.Simd.{map-map}
use Rattle.chart_parse.proofs.Closed.{closed_exact}
use Rattle.chart_parse.proofs.filling.chart.Goals as goal

pub of_places-requires : goal.of_places-requires
of_places-requires c =
    let list = c.grammar.inside.nonterminals.now in
    let productions = c.args.grammar.now.productions in
    let lexemes = c.lexemes.inside.list.now in
    let few = ap length (c.grammar.view_is ∙ c.in_ok-grammar.ensures) in
    let small = ap length c.in_ok-kinds.ensures in
    let seen = ap length c.lexemes.view_is in
    closed_exact (plain_numbered list) c.in_ok-kinds.kinds.now c.in_ok-places.places.items c.in_ok-places.ensures.part c.in_ok-places.ensures.closed
    (omega (arith, c.requires.productions, few, length-map productions (alternatives_of (names_of productions) c.args.grammar.now.literals)))
    (omega (arith, c.requires.lexemes, small, seen, length-map lexemes (λ (l : Lexeme). l.kind), length-map lexemes plain_lexeme))

pub returns-clause-kinds : goal.returns-clause-kinds
returns-clause-kinds c =
    c.of_places.ensures.kinds ∙ c.in_ok-kinds.ensures ∙ sym (map-map (λ (l : PlainLexeme). l.kind) plain_lexeme c.lexemes.inside.list.now) ∙ ap kinds_of c.lexemes.view_is
