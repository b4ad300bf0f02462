use Rattle.std.proofs.Common.{◌∙◌, sym, ap}
use Rattle.std.specs.List.{position_or_len}
use Rattle.std.specs.Str.{bytes_eq}
use Rattle.meta_check.specs.Checked.{PlainDescription}
use Rattle.equation_expand.specs.Meaning.{number_of_function}
use Rattle.equation_expand.specs.PlainSources.{plain_source}
use Rattle.equation_expand.proofs.EquationTable.{key-found}
use Rattle.equation_expand.proofs.FunctionNumbers.{names-plain}
use Rattle.equation_expand.proofs.NextNodes.{entered, not-entered}
use Rattle.equation_expand.proofs.source.Source.enter.Goals as goal

pub returns-in-Some-clause-left : goal.returns-in-Some-clause-left
returns-in-Some-clause-left c =
    let source = c.args.self.now in
    let entries = source.equations.entries in
    entered (plain_source source) entries source.told c.args.function.now c.args.tree.now c.in-Some.equation.now
    (sym (c.in-Some.ensures.value ∙ key-found entries (c.args.function, c.args.tree.now.alternative)))

pub returns-in-None-clause-uncovered : goal.returns-in-None-clause-uncovered
returns-in-None-clause-uncovered c =
    let source = c.args.self.now in
    let entries = source.equations.entries in
    let f = c.args.function.now in
    not-entered (plain_source source) entries source.told f c.args.tree.now c.function_number.result
    (sym (c.in-None.ensures.value ∙ key-found entries (c.args.function, c.args.tree.now.alternative)))
    (c.function_number.ensures ∙ ap (position_or_len (bytes_eq f)) (names-plain c.description.inside.functions.now) ∙ ap (λ (d : PlainDescription). number_of_function d f) c.description.view_is)
