use Rattle.std.proofs.Common.{◌∙◌}
use Rattle.gram_form.proofs.OrderedTexts.{found-texts}
use Rattle.meta_check.proofs.names.repeats_declaration.Goals as goal

pub returns-in-Declaration : goal.returns-in-Declaration
returns-in-Declaration c = rw c.in-Declaration.is (c.contains.ensures ∙ found-texts c.in-Declaration.declaration.function.now c.args.names.now.keys)
