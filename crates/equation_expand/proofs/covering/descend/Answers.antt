use Rattle.std.proofs.Common.{◌∙◌, ◌++◌, [], ◌∷◌, Err, sym, ap, subst}
use Rattle.std.proofs.lemmas.Result.{err_from_is_err_and, on_ok_weaker}
use Rattle.gram_form.specs.Trees.{plain_tree}
use Rattle.equation_expand.specs.Frames.{IsOpen, Passes, Stand, rest_after, rest_of}
use Rattle.equation_expand.specs.Meaning.{Meaning}
use Rattle.equation_expand.specs.PlainSources.{plain_source}
use Rattle.equation_expand.specs.Seen.{IsGapError}
use Rattle.equation_expand.specs.Sources.{PlainSource, expansion_of, meaning_in}
use Rattle.equation_expand.proofs.FilledItems.{exits}
use Rattle.equation_expand.proofs.HeldTrees.{holds-below}
use Rattle.equation_expand.proofs.Joins.{error-passes, passes-front}
use Rattle.equation_expand.proofs.Standing.{IsAfter, on-top, one-more, stepped, top-changed}
use Rattle.equation_expand.proofs.Turns.{IsWorkOf, opened-below, span-of}
use Rattle.equation_expand.proofs.covering.descend.Goals as goal

pub returns-then-contains-clause-stand : goal.returns-then-contains-clause-stand
returns-then-contains-clause-stand c =
    let s : PlainSource = plain_source c.args.source.now in
    let m : Meaning = expansion_of s in
    let o = c.args.phrase in
    let t = c.args.tree.now in
    let f = c.args.function.now in
    let w = c.work_of.result in
    let top = on-top s m c.args.stack.now.items o c.requires.stand in
    let work : IsWorkOf w f t = record { function = c.work_of.ensures.function; production = c.work_of.ensures.production; start = c.work_of.ensures.start; end = c.work_of.ensures.end } in
    let after : IsAfter o c.after.result = record { equation = c.after.ensures.equation; function = c.after.ensures.function; tree = c.after.ensures.tree; next = c.after.ensures.next } in
    let held = holds-below s.tree (plain_tree o.tree.now) (plain_tree t) top.0.held c.requires.next.2 in
    let done = c.requires.done w (sym c.contains.ensures ∙ c.if-contains.true) (plain_tree t) held (span-of w f t work) in
    let step = stepped s o c.after.result (meaning_in s (plain_tree t) f) done.0 after (ap (meaning_in s (plain_tree t)) (sym work.function) ∙ done.1) c.requires.next.0 top.0 in
    on_ok_weaker c.push_open.result (λ e. subst (Stand s m) (sym e) (top-changed s m c.args.stack.now.items o c.after.result c.requires.stand step)) c.push_open.ensures.pushed

pub returns-then-contains-clause-gap : goal.returns-then-contains-clause-gap
returns-then-contains-clause-gap c = c.push_open.ensures.memory (expansion_of (plain_source c.args.source.now))

pub returns-in_err-below-clause-gap : goal.returns-in_err-below-clause-gap
returns-in_err-below-clause-gap c =
    let s : PlainSource = plain_source c.args.source.now in
    let m : Meaning = expansion_of s in
    let o = c.args.phrase in
    let own = meaning_in s (plain_tree c.args.tree.now) c.args.function.now in
    let top = on-top s m c.args.stack.now.items o c.requires.stand in
    let passes : Passes own m = λ gap g. top.1 gap (passes-front own (rest_after s o) (rest_of s o) c.requires.next.0 gap g) in
    let error = err_from_is_err_and c.from_residual.result c.from_residual.ensures.1 in
    exits (IsGapError m) c.from_residual.result _ (error.1 ∙ ap Err error.2) (error-passes own m passes _ c.in_err-below.ensures.uncovered)

pub returns-in_err-push_open-clause-gap : goal.returns-in_err-push_open-clause-gap
returns-in_err-push_open-clause-gap c =
    let m : Meaning = expansion_of (plain_source c.args.source.now) in
    let error = err_from_is_err_and c.from_residual-in_err-push_open.result c.from_residual-in_err-push_open.ensures.1 in
    exits (IsGapError m) c.from_residual-in_err-push_open.result _ (error.1 ∙ ap Err error.2) (c.in_err-push_open.ensures.memory m)

pub returns-clause-stand : goal.returns-clause-stand
returns-clause-stand c =
    let s : PlainSource = plain_source c.args.source.now in
    let m : Meaning = expansion_of s in
    let o = c.args.phrase in
    let os = c.args.stack.now.items in
    let below = c.in_ok-below.below in
    let top = on-top s m os o c.requires.stand in
    let opened : IsOpen s below × Passes (rest_of s below) (rest_of s o) =
    opened-below s o below c.args.tree.now c.args.function.now top.0 c.requires.next.2 c.in_ok-below.ensures.tree c.in_ok-below.ensures.function c.in_ok-below.ensures.left c.requires.next.0 in
    on_ok_weaker c.push_open-3.result
    (λ e. subst (Stand s m) (sym (e ∙ ap (λ xs. xs ++ below ∷ []) c.in_ok-push_open.ensures.pushed)) (one-more s m os o below c.requires.stand opened))
    c.push_open-3.ensures.pushed

pub returns-clause-gap : goal.returns-clause-gap
returns-clause-gap c = c.push_open-3.ensures.memory (expansion_of (plain_source c.args.source.now))
