use Rattle.std.proofs.Common.{◌∙◌, map, sym, ap}
use Rattle.std.specs.Prelude.{◌||◌}
use Rattle.std.specs.List.{list_any}
use Rattle.gram_form.specs.Plain.{texts}
use Rattle.meta_terms.specs.Nodes.{label_of}
use Rattle.meta_terms.specs.PlainItems.{plain_pattern_part}
use Rattle.meta_check.specs.Views.{uses_outside, variables_of}
use Rattle.meta_check.proofs.Variables.{any_use}
use Rattle.meta_check.proofs.templates.misuses_variable.Goals as goal

pub returns : goal.returns
returns c =
    let names = variables_of (map plain_pattern_part c.args.equation.now.pattern.now) in
    let nodes = c.args.equation.now.action.list.now in
    let known = rw c.in-Some.is at c.in_ok-variables.ensures in
    c.nodes_outside.ensures
    ∙ any_use (texts c.in-Some.variables.keys) names known.1 nodes
    ∙ ap (λ b. b || list_any (uses_outside names) (map label_of nodes)) (sym known.0)
