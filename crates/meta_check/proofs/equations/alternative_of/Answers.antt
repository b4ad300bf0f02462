use Rattle.std.proofs.Common.{◌∙◌, sym, ap}
use Rattle.std.specs.Option.{option_copied}
use Rattle.meta_terms.specs.PlainItems.{plain_equation}
use Rattle.meta_check.specs.Tables.{number_behind, number_for}
use Rattle.meta_check.specs.Views.{parts_of_pattern}
use Rattle.meta_check.proofs.AlternativeTable.{key_found}
use Rattle.meta_check.proofs.Filling.{none_of}
use Rattle.meta_check.proofs.Lookups.{text_found}
use Rattle.meta_check.proofs.equations.alternative_of.Goals as goal

pub returns : goal.returns
returns c =
    let entries = c.args.alternatives.now.entries in
    let own = plain_equation c.args.equation.now in
    c.copied.ensures
    ∙ c.get-2.ensures.value
    ∙ key_found entries (c.in-Some.nonterminal.now, c.in_ok-parts_of.field-0)
    ∙ ap (number_for entries c.in-Some.nonterminal.now) c.in_ok-parts_of.ensures
    ∙ ap (λ o. number_behind entries o (parts_of_pattern own.pattern)) (c.in-Some.ensures.value ∙ text_found own.function c.args.functions.now.entries)

pub returns-in_default : goal.returns-in_default
returns-in_default c =
    let own = plain_equation c.args.equation.now in
    ap (λ o. number_behind c.args.alternatives.now.entries o (parts_of_pattern own.pattern))
    (ap option_copied (sym (none_of c.get.result c.in_default.not-Some)) ∙ c.get.ensures.value ∙ text_found own.function c.args.functions.now.entries)
