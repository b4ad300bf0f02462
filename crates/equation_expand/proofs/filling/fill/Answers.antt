use Rattle.std.proofs.Common.{◌∙◌, Err, ap}
use Rattle.std.proofs.lemmas.Result.{err_from_is_err_and}
use Rattle.equation_expand.specs.Frames.{IsFillError}
use Rattle.equation_expand.specs.PlainSources.{plain_source}
use Rattle.equation_expand.specs.Sources.{PlainSource, expansion_of}
use Rattle.equation_expand.proofs.FilledItems.{exits}
use Rattle.equation_expand.proofs.Turns.{fill-error, left-top}
use Rattle.equation_expand.proofs.filling.fill.Goals as goal

pub returns-in_err-push_open-clause-error : goal.returns-in_err-push_open-clause-error
returns-in_err-push_open-clause-error c =
    let s : PlainSource = plain_source c.args.source.now in
    let error = err_from_is_err_and c.from_residual-in_err-push_open.result c.from_residual-in_err-push_open.ensures.1 in
    exits (IsFillError s) c.from_residual-in_err-push_open.result _ (error.1 ∙ ap Err error.2) (fill-error s _ (c.in_err-push_open.ensures.memory (expansion_of s)))

pub turn-requires-clause-left : goal.turn-requires-clause-left
turn-requires-clause-left c =
    let s : PlainSource = plain_source c.args.source.now in
    left-top s (expansion_of s) c.loop.builder c.loop.stack.items c.pop.new.self.items c.in-Some.phrase c.loop.invariant.left c.in-Some.ensures.items
