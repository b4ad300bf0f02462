use Rattle.std.proofs.Common.{◌∙◌, ◌++◌, [], ◌∷◌, Err, List, Ok, Some, sym, ap, subst}
use Rattle.std.proofs.lemmas.Result.{err_from_is_err_and, on_ok_weaker}
use Rattle.action_terms.specs.Labels.{Label}
use Rattle.action_terms.specs.Pushed.{label_of}
use Rattle.equation_expand.specs.Frames.{IsFillError, IsNext, left_of, rest_of}
use Rattle.equation_expand.specs.Meaning.{Meaning, Misfit, joined}
use Rattle.equation_expand.specs.PlainSources.{plain_source}
use Rattle.equation_expand.specs.Sources.{PlainSource, expansion_of}
use Rattle.equation_expand.proofs.FilledItems.{exits}
use Rattle.equation_expand.proofs.Joins.{error-passes}
use Rattle.equation_expand.proofs.Standing.{IsAfter}
use Rattle.equation_expand.proofs.Turns.{fill-error, fill-errors, fill-passes, left-gap, left-node, left-none, no-gap}
use Rattle.equation_expand.proofs.filling.turn.Goals as goal

pub next_in-requires : goal.next_in-requires
next_in-requires c =
    let s : PlainSource = plain_source c.args.source.now in
    record { fit = λ h. no-gap (expansion_of s) Misfit c.requires.covered (left-gap s (expansion_of s) c.args.builder.now c.args.phrase c.args.stack.now.items c.requires.left Misfit h) }

pub returns-in_err-next_in-clause-error : goal.returns-in_err-next_in-clause-error
returns-in_err-next_in-clause-error c =
    let s : PlainSource = plain_source c.args.source.now in
    let error = err_from_is_err_and c.from_residual.result c.from_residual.ensures.1 in
    exits (IsFillError s) c.from_residual.result _ (error.1 ∙ ap Err error.2)
    (fill-error s _ (error-passes (rest_of s c.args.phrase) (expansion_of s) (left-gap s (expansion_of s) c.args.builder.now c.args.phrase c.args.stack.now.items c.requires.left) _ c.in_err-next_in.ensures.large))

pub returns-in-None-clause-left : goal.returns-in-None-clause-left
returns-in-None-clause-left c =
    let s : PlainSource = plain_source c.args.source.now in
    left-none s (expansion_of s) c.args.builder.now c.args.phrase c.args.stack.now.items c.requires.left (subst (IsNext s c.args.phrase) c.in-None.is c.in_ok-next_in.ensures.next)

pub returns-in_ok-push_node-in-Some-Node-clause-left : goal.returns-in_ok-push_node-in-Some-Node-clause-left
returns-in_ok-push_node-in-Some-Node-clause-left c =
    let s : PlainSource = plain_source c.args.source.now in
    let m : Meaning = expansion_of s in
    let o = c.args.phrase in
    let l = label_of c.in-Some-Node.node in
    let next = subst (IsNext s o) (c.in-Some-Node.is ∙ ap Some c.in-Some-Node.field-0-is) c.in_ok-next_in.ensures.next in
    let after : IsAfter o c.after.result = record { equation = c.after.ensures.equation; function = c.after.ensures.function; tree = c.after.ensures.tree; next = c.after.ensures.next } in
    let left = left-node s m c.args.builder.now o c.after.result c.args.stack.now.items l c.requires.left next.0 after in
    on_ok_weaker c.push_open.result
    (λ e. left ∙ ap (λ (b : List Label). joined (Ok b) (left_of s (c.args.stack.now.items ++ c.after.result ∷ []))) (sym c.in_ok-push_node-in-Some-Node.ensures.pushed)
    ∙ ap (λ os. joined (Ok c.push_node.new.builder) (left_of s os)) (sym e))
    c.push_open.ensures.pushed

pub returns-in_ok-push_node-in-Some-Node-clause-error : goal.returns-in_ok-push_node-in-Some-Node-clause-error
returns-in_ok-push_node-in-Some-Node-clause-error c =
    let s : PlainSource = plain_source c.args.source.now in
    fill-errors s c.push_open.result (c.push_open.ensures.memory (expansion_of s))

pub returns-in-Some-Meaning-clause-left : goal.returns-in-Some-Meaning-clause-left
returns-in-Some-Meaning-clause-left c =
    let s : PlainSource = plain_source c.args.source.now in
    on_ok_weaker c.descend.result (λ e. c.requires.left ∙ ap (joined (Ok c.args.builder.now)) (sym e)) c.descend.ensures.left

pub returns-in-Some-Meaning-clause-error : goal.returns-in-Some-Meaning-clause-error
returns-in-Some-Meaning-clause-error c =
    let s : PlainSource = plain_source c.args.source.now in
    fill-passes s (rest_of s c.args.phrase) c.descend.result (left-gap s (expansion_of s) c.args.builder.now c.args.phrase c.args.stack.now.items c.requires.left) c.descend.ensures.gap

pub descend-requires : goal.descend-requires
descend-requires c =
    let s : PlainSource = plain_source c.args.source.now in
    subst (IsNext s c.args.phrase) (c.in-Some-Meaning.is ∙ ap Some c.in-Some-Meaning.field-0-is) c.in_ok-next_in.ensures.next
