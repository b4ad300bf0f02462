use Rattle.std.proofs.Common.{◌∙◌, ℕ, List, Option, Some, not, option_to_list, sym, ap}
use Rattle.std.specs.List.{list_all}
use Rattle.std.proofs.Math.Bool.{and-true}
use Rattle.meta_terms.specs.Nodes.{label_of}
use Rattle.meta_check.specs.declared.categories.Category.{Category}
use Rattle.meta_check.specs.Tables.{category_in, number_of, stands_as, wanted_category}
use Rattle.meta_check.proofs.Lookups.{text_found}
use Rattle.meta_check.proofs.categories.misuses_part.Goals as goal

pub returns-in-Some-get : goal.returns-in-Some-get
returns-in-Some-get c =
    let entries = c.args.categories.now.entries in
    let wanted = wanted_category (number_of c.args.functions.now.entries) (label_of c.args.node.now) in
    let found = c.in-Some-get.ensures.value ∙ text_found c.in-Some.variable.now entries in
    c.is_unfit.ensures
    ∙ ap (λ (o : Option Category). not (stands_as o (Some c.in-Some-get.category.now))) c.wanted_category.ensures
    ∙ ap not (ap (stands_as wanted) found ∙ sym (and-true (stands_as wanted (category_in entries c.in-Some.variable.now)))
    ∙ ap (λ (o : Option (List ℕ)). list_all (λ v. stands_as wanted (category_in entries v)) (option_to_list o)) c.in-Some.ensures)

pub returns-in-None : goal.returns-in-None
returns-in-None c =
    let entries = c.args.categories.now.entries in
    let wanted = wanted_category (number_of c.args.functions.now.entries) (label_of c.args.node.now) in
    let found = c.in-None.ensures.value ∙ text_found c.in-Some.variable.now entries in
    ap not (ap (stands_as wanted) found ∙ sym (and-true (stands_as wanted (category_in entries c.in-Some.variable.now)))
    ∙ ap (λ (o : Option (List ℕ)). list_all (λ v. stands_as wanted (category_in entries v)) (option_to_list o)) c.in-Some.ensures)
