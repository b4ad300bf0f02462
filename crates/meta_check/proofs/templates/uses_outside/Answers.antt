use Rattle.std.proofs.Common.{◌≡◌, ◌∙◌, Bool, true, false, not, option_to_list, refl, ap}
use Rattle.std.specs.Prelude.{◌||◌}
use Rattle.std.specs.List.{list_any}
use Rattle.gram_form.specs.Plain.{texts}
use Rattle.gram_form.proofs.OrderedTexts.{found-texts}
use Rattle.meta_check.specs.Views.{is_in}
use Rattle.meta_check.proofs.templates.uses_outside.Goals as goal

one : (b : Bool) → b ≡ (b || false)
one true = refl
one false = refl

pub returns-in-Some : goal.returns-in-Some
returns-in-Some c =
    let keys = texts c.args.variables.now.keys in
    ap not (c.contains.ensures ∙ found-texts c.in-Some.variable.now c.args.variables.now.keys)
    ∙ one (not (is_in keys c.in-Some.variable.now))
    ∙ ap (λ o. list_any (λ v. not (is_in keys v)) (option_to_list o)) c.in-Some.ensures
