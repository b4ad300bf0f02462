use Rattle.std.proofs.Common.{◌∙◌, sym, ap}
use Rattle.std.specs.Prelude.{option_map}
use Rattle.meta_terms.specs.declared.template.TemplateNode.{TemplateNode}
use Rattle.meta_terms.specs.Nodes.{label_of}
use Rattle.meta_check.specs.declared.categories.Category.TheVariants.{Phrase}
use Rattle.meta_check.specs.Tables.{number_of, wanted_category}
use Rattle.meta_check.proofs.Lookups.{text_found}
use Rattle.meta_check.proofs.categories.wanted_category.Goals as goal

pub returns-in-Some : goal.returns-in-Some
returns-in-Some c =
    ap (option_map Phrase) (c.in-Some.ensures.value ∙ text_found c.in-Apply.function.now c.args.functions.now.entries)
    ∙ sym (ap (λ (n : TemplateNode). wanted_category (number_of c.args.functions.now.entries) (label_of n)) c.in-Apply.is)

pub returns-in-None : goal.returns-in-None
returns-in-None c =
    ap (option_map Phrase) (c.in-None.ensures.value ∙ text_found c.in-Apply.function.now c.args.functions.now.entries)
    ∙ sym (ap (λ (n : TemplateNode). wanted_category (number_of c.args.functions.now.entries) (label_of n)) c.in-Apply.is)
