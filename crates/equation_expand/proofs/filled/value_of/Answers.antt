use Rattle.std.proofs.Common.{◌∙◌, [], ◌∷◌, Ok, sym, ap, subst}
use Rattle.std.specs.Prelude.{IsTrue, option_map}
use Rattle.action_terms.specs.Labels.{YielderNode}
use Rattle.action_terms.specs.declared.kinds.YKind.TheVariants.{Number}
use Rattle.source_lex.specs.Forms.{has_form}
use Rattle.source_lex.specs.Lexemes.{plain_lexeme}
use Rattle.equation_expand.specs.Meaning.{valued}
use Rattle.equation_expand.proofs.FilledItems.{value-filled, value-same}
use Rattle.equation_expand.proofs.filled.value_of.Goals as goal

pub returns-in-Some-read_decimal-clause-filled : goal.returns-in-Some-read_decimal-clause-filled
returns-in-Some-read_decimal-clause-filled c s =
    let l = c.in-Some.lexeme in
    let spelled = sym c.read_decimal.ensures ∙ c.in-Some-read_decimal.is in
    let form = subst (λ k. IsTrue (has_form k l.bytes.now)) c.in-Numeral.is l.form in
    ap (λ o. valued (option_map plain_lexeme o)) c.in-Some.is
    ∙ value-filled (plain_lexeme l) l.form c.in-Numeral.is c.in-Some-read_decimal.value spelled
    ∙ ap (λ z. Ok (YielderNode (Number z) [] ∷ [])) (sym (value-same l.bytes.now form c.in-Some-read_decimal.value spelled))
