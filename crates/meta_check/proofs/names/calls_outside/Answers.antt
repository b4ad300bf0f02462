use Rattle.std.proofs.Common.{◌≡◌, ◌∙◌, true, false, not, map, sym, ap}
use Rattle.std.specs.Prelude.{◌||◌}
use Rattle.std.specs.List.{list_any}
use Rattle.gram_form.specs.Plain.{texts}
use Rattle.gram_form.proofs.OrderedTexts.{found-texts}
use Rattle.meta_terms.specs.Nodes.{label_of}
use Rattle.meta_check.specs.Views.{is_in, applies_outside}
use Rattle.meta_check.proofs.Known.{any_node}
use Rattle.meta_check.proofs.names.calls_outside.Goals as goal

pub returns-then-undeclared : goal.returns-then-undeclared
returns-then-undeclared c =
    let keys = texts c.args.names.now.keys in
    let head : not (is_in keys c.in-Equation.equation.function.now) ≡ true = sym (ap not (c.contains-undeclared.ensures ∙ found-texts c.in-Equation.equation.function.now c.args.names.now.keys)) ∙ ap not c.if-undeclared.true in
    rw c.in-Equation.is (ap not c.if-undeclared.true ∙ sym (ap (λ b. b || list_any (applies_outside keys) (map label_of c.in-Equation.equation.action.list.now)) head))

pub returns-else-undeclared : goal.returns-else-undeclared
returns-else-undeclared c =
    let keys = texts c.args.names.now.keys in
    let head : not (is_in keys c.in-Equation.equation.function.now) ≡ false = sym (ap not (c.contains-undeclared.ensures ∙ found-texts c.in-Equation.equation.function.now c.args.names.now.keys)) ∙ ap not c.if-undeclared.false in
    let rest = list_any (applies_outside keys) (map label_of c.in-Equation.equation.action.list.now) in
    rw c.in-Equation.is (c.nodes_outside.ensures ∙ any_node keys c.in-Equation.equation.action.list.now ∙ sym (ap (λ b. b || rest) head))
