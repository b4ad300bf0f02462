use Rattle.std.proofs.Common.{◌∙◌, ap, not}
use Rattle.gram_form.proofs.OrderedTexts.{found-texts}
use Rattle.meta_check.proofs.names.applies_outside.Goals as goal

pub returns-in-Apply : goal.returns-in-Apply
returns-in-Apply c = rw c.in-Apply.is (ap not (c.contains.ensures ∙ found-texts c.in-Apply.function.now c.args.names.now.keys))
