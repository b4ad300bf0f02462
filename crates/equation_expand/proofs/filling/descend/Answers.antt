use Rattle.std.proofs.Common.{◌∙◌, ◌++◌, [], ◌∷◌, Err, ap}
use Rattle.std.proofs.lemmas.Result.{err_from_is_err_and, on_ok_weaker}
use Rattle.gram_form.specs.Trees.{plain_tree}
use Rattle.equation_expand.specs.Frames.{left_of, rest_after, rest_of}
use Rattle.equation_expand.specs.PlainSources.{plain_source}
use Rattle.equation_expand.specs.Seen.{IsGapError}
use Rattle.equation_expand.specs.Sources.{PlainSource, meaning_in}
use Rattle.equation_expand.proofs.FilledItems.{exits}
use Rattle.equation_expand.proofs.Joins.{error-passes, passes-front}
use Rattle.equation_expand.proofs.Standing.{IsAfter}
use Rattle.equation_expand.proofs.Turns.{left-put}
use Rattle.equation_expand.proofs.filling.descend.Goals as goal

pub returns-in_err-below-clause-gap : goal.returns-in_err-below-clause-gap
returns-in_err-below-clause-gap c =
    let s : PlainSource = plain_source c.args.source.now in
    let o = c.args.phrase in
    let own = meaning_in s (plain_tree c.args.tree.now) c.args.function.now in
    let error = err_from_is_err_and c.from_residual.result c.from_residual.ensures.1 in
    exits (IsGapError (rest_of s o)) c.from_residual.result _ (error.1 ∙ ap Err error.2)
    (error-passes own (rest_of s o) (passes-front own (rest_after s o) (rest_of s o) c.requires.0) _ c.in_err-below.ensures.uncovered)

pub returns-in_err-push_open-clause-gap : goal.returns-in_err-push_open-clause-gap
returns-in_err-push_open-clause-gap c =
    let s : PlainSource = plain_source c.args.source.now in
    let error = err_from_is_err_and c.from_residual-in_err-push_open.result c.from_residual-in_err-push_open.ensures.1 in
    exits (IsGapError (rest_of s c.args.phrase)) c.from_residual-in_err-push_open.result _ (error.1 ∙ ap Err error.2) (c.in_err-push_open.ensures.memory (rest_of s c.args.phrase))

pub returns-clause-left : goal.returns-clause-left
returns-clause-left c =
    let s : PlainSource = plain_source c.args.source.now in
    let o = c.args.phrase in
    let os = c.args.stack.now.items in
    let below = c.in_ok-below.below in
    let own = meaning_in s (plain_tree c.args.tree.now) c.args.function.now in
    let after : IsAfter o c.after.result = record { equation = c.after.ensures.equation; function = c.after.ensures.function; tree = c.after.ensures.tree; next = c.after.ensures.next } in
    on_ok_weaker c.push_open-2.result
    (λ e. ap (left_of s) (e ∙ ap (λ xs. xs ++ below ∷ []) c.in_ok-push_open.ensures.pushed) ∙ left-put s own o c.after.result below os c.requires.0 after c.in_ok-below.ensures.left)
    c.push_open-2.ensures.pushed

pub returns-clause-gap : goal.returns-clause-gap
returns-clause-gap c = c.push_open-2.ensures.memory (rest_of (plain_source c.args.source.now) c.args.phrase)
