use Rattle.std.proofs.Common.{◌∙◌, ap, not}
use Rattle.gram_form.specs.Plain.{texts}
use Rattle.gram_form.proofs.OrderedTexts.{found-texts}
use Rattle.meta_check.proofs.Known.{any_alternative, any_pattern}
use Rattle.meta_check.proofs.names.names_outside.Goals as goal

pub returns-in-Production : goal.returns-in-Production
returns-in-Production c = rw c.in-Production.is (c.alternatives_outside.ensures ∙ any_alternative (texts c.args.names.now.keys) c.in-Production.production.alternatives.now)

pub returns-in-Declaration : goal.returns-in-Declaration
returns-in-Declaration c = rw c.in-Declaration.is (ap not (c.contains.ensures ∙ found-texts c.in-Declaration.declaration.nonterminal.now c.args.names.now.keys))

pub returns-in-Equation : goal.returns-in-Equation
returns-in-Equation c = rw c.in-Equation.is (c.pattern_outside.ensures ∙ any_pattern (texts c.args.names.now.keys) c.in-Equation.equation.pattern.now)
