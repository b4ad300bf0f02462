use Rattle.std.proofs.Common.{◌∙◌, ap, not}
use Rattle.gram_form.proofs.OrderedTexts.{found-texts}
use Rattle.meta_check.proofs.names.is_undefined.Goals as goal

pub returns-in-Nonterm : goal.returns-in-Nonterm
returns-in-Nonterm c = rw c.in-Nonterm.is (ap not (c.contains.ensures ∙ found-texts c.in-Nonterm.name.now c.args.names.now.keys))
