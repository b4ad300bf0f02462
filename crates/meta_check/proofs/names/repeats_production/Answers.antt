use Rattle.std.proofs.Common.{◌∙◌}
use Rattle.gram_form.proofs.OrderedTexts.{found-texts}
use Rattle.meta_check.proofs.names.repeats_production.Goals as goal

pub returns-in-Production : goal.returns-in-Production
returns-in-Production c = rw c.in-Production.is (c.contains.ensures ∙ found-texts c.in-Production.production.name.now c.args.names.now.keys)
