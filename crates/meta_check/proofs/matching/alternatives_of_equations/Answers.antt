use Rattle.std.proofs.Common.{◌≡◌, ◌∙◌, List, map, sym, ap, subst}
use Rattle.std.proofs.lemmas.Result.{IfOk-weaker}
use Rattle.gram_form.specs.Grammars.{names_of}
use Rattle.gram_form.specs.Plain.{PlainProduction}
use Rattle.meta_terms.specs.PlainItems.{PlainDeclaration, plain_declaration, plain_equation, plain_item}
use Rattle.meta_check.specs.declared.description.Description.TheInside.{Inside}
use Rattle.meta_check.specs.Checked.{PlainDescription, items_of}
use Rattle.meta_check.specs.Tables.{AreAlternatives, AreNonterminals, AreNumbers, TellAlternatives, number_by}
use Rattle.meta_check.specs.Views.{alternative_of, declarations_of}
use Rattle.meta_check.proofs.Alternatives.{alternatives_told}
use Rattle.meta_check.proofs.DeclaredItems.{each_equation}
use Rattle.meta_check.proofs.InOrder.{kinds_kept}
use Rattle.meta_check.proofs.matching.alternatives_of_equations.Goals as goal

pub returns : goal.returns
returns c =
    let d : PlainDescription = c.args.description.now in
    let seen = c.description.view_is in
    let kept = kinds_kept d.grammar.productions d.functions d.equations in
    let productions = ap (λ (x : Inside). x.grammar.productions) c.description-inside.view_is ∙ ap (λ (x : PlainDescription). x.grammar.productions) seen ∙ sym kept.productions in
    let declarations : declarations_of (map plain_item c.in_ok-declarations.declarations.items) ≡ declarations_of (items_of d) =
    c.in_ok-declarations.ensures ∙ ap (λ (x : Inside). map plain_declaration x.functions.now) c.description-inside.view_is ∙ ap (λ (x : PlainDescription). x.functions) seen ∙ sym kept.declarations in
    let told : TellAlternatives (items_of d) c.in_ok-functions.functions.entries c.in_ok-alternatives.alternatives.entries =
    alternatives_told (items_of d) (number_by c.in_ok-numbers.numbers) c.in_ok-functions.functions.entries c.in_ok-alternatives.alternatives.entries
    (subst (λ (ps : List PlainProduction). AreNumbers (names_of ps) (number_by c.in_ok-numbers.numbers)) productions c.in_ok-numbers.ensures)
    (subst (λ (ds : List PlainDeclaration). AreNonterminals (number_by c.in_ok-numbers.numbers) ds c.in_ok-functions.functions.entries) (ap (λ ls. declarations_of (map plain_item ls)) c.as_slice.ensures.value ∙ declarations) c.in_ok-functions.ensures)
    (subst (λ (ps : List PlainProduction). AreAlternatives ps c.in_ok-alternatives.alternatives.entries) productions c.in_ok-alternatives.ensures) in
    IfOk-weaker c.alternatives_by.result _ _
    (λ v h. h ∙ each_equation _ (alternative_of (items_of d)) told _ ∙ ap (λ (x : Inside). map (alternative_of (items_of d)) (map plain_equation x.equations.now)) c.description-inside.view_is ∙ ap (λ (x : PlainDescription). map (alternative_of (items_of d)) x.equations) seen)
    c.alternatives_by.ensures
