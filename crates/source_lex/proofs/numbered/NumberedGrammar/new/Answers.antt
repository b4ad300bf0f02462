use Rattle.std.proofs.Common.{ℕ, List, map, ap, ◌∙◌}
use Rattle.gram_form.specs.Plain.{plain_grammar, plain_production, texts}
use Rattle.gram_form.specs.Grammars.{names_of}
use Rattle.source_lex.specs.Numbered.{Numbered, alternatives_of, numbered}
use Rattle.source_lex.proofs.DistinctLiterals.{distinct_literals}
use Rattle.source_lex.proofs.numbered.NumberedGrammar.new.Goals as goal

pub places-requires : goal.places-requires
places-requires c = distinct_literals (plain_grammar c.grammar.inside.productions.now c.grammar.inside.literals.now) c.grammar.invariant

pub returns : goal.returns
returns c =
    let made : (names literals : List (List ℕ)) → Numbered = λ names literals. map (alternatives_of names literals) (map plain_production c.grammar.inside.productions.now) in
    c.in_ok-nonterminals.ensures
    ∙ ap (λ names. made names (texts c.in_ok-places.field-0.keys)) c.in_ok-names.ensures
    ∙ ap (made (names_of (map plain_production c.grammar.inside.productions.now))) c.in_ok-places.ensures
    ∙ ap numbered c.grammar.view_is
