use Rattle.std.proofs.Common.{◌∙◌, refl, true, map, sym, ap, subst, List, ℕ}
use Rattle.std.specs.Prelude.{slice_range}
use Rattle.action_text.specs.declared.reading.PlaceError.TheVariants.{At}
use Rattle.meta_terms.specs.Templates.{Label}
use Rattle.meta_terms.specs.Nodes.{label_of}
use Rattle.meta_terms.proofs.WholeTemplates.{fills-template}
use Rattle.action_text.specs.Reading.{FailsAt}
use Rattle.action_text.specs.TemplateText.{IsFirstBadIn}
use Rattle.action_text.specs.TemplateAnswers.{IsTemplateOf}
use Rattle.action_text.specs.Texts.{texts}
use Rattle.action_text.proofs.TextAnswers.{texts_cut}
use Rattle.action_text.proofs.template_reader.read_template.Goals as goal

pub returns-in-Err-At-clause-error : goal.returns-in-Err-At-clause-error
returns-in-Err-At-clause-error c =
    let cut = texts_cut c.tokens.inside.list.now c.args.tokens.now c.args.from c.args.to c.tokens.view_is in
    let bad : FailsAt true (texts (slice_range c.tokens.inside.list.now c.args.from c.args.to)) (At c.in-Err-At.place) = rw c.in-Err-At.field-0-is at c.in-Err-At.ensures.error in
    (c.in-Err-At.place, refl, subst (λ (ts : List (List ℕ)). IsFirstBadIn true ts c.in-Err-At.place) cut bad)

pub invariant_of-result : goal.invariant_of-result
invariant_of-result c =
    let nodes = c.in-Ok.ensures.nodes in
    let same = c.in_ok-list.ensures ∙ c.as_slice.ensures.value in
    record { whole = fills-template nodes.template (map label_of c.in_ok-list.field-0.now) nodes.spells.0 (ap (map label_of) same ∙ nodes.labels_are) }

pub returns-clause-template : goal.returns-clause-template
returns-clause-template c =
    let cut = texts_cut c.tokens.inside.list.now c.args.tokens.now c.args.from c.args.to c.tokens.view_is in
    let same = c.in_ok-list.ensures ∙ c.as_slice.ensures.value in
    subst (λ (ts : List (List ℕ)). IsTemplateOf ts (map label_of c.in_ok-list.field-0.now)) cut
    (subst (λ (ls : List Label). IsTemplateOf (texts (slice_range c.tokens.inside.list.now c.args.from c.args.to)) ls) (sym (ap (map label_of) same)) c.in-Ok.ensures.nodes)
