use Rattle.std.proofs.Common.{◌∙◌, [], ◌∷◌, Err, Ok, Some, refl, sym, ap, subst}
use Rattle.std.proofs.lemmas.Result.{err_from_is_err_and, on_ok_weaker}
use Rattle.action_terms.specs.Pushed.{label_of}
use Rattle.equation_expand.specs.Frames.{IsNext, Stand, rest_of}
use Rattle.equation_expand.specs.Meaning.{Meaning, Misfit}
use Rattle.equation_expand.specs.PlainSources.{plain_source}
use Rattle.equation_expand.specs.Seen.{IsGapError}
use Rattle.equation_expand.specs.Sources.{PlainSource, expansion_of}
use Rattle.equation_expand.proofs.FilledItems.{exits}
use Rattle.equation_expand.proofs.Joins.{error-passes}
use Rattle.equation_expand.proofs.Standing.{IsAfter, below-top, on-top, stepped, top-changed}
use Rattle.equation_expand.proofs.Turns.{IsWorkOf, done-more, no-gap-left}
use Rattle.equation_expand.proofs.covering.turn.Goals as goal

pub next_in-requires : goal.next_in-requires
next_in-requires c =
    let s : PlainSource = plain_source c.args.source.now in
    record { fit = λ h. c.requires.fit ((on-top s (expansion_of s) c.args.stack.now.items c.args.phrase c.requires.stand).1 Misfit h) }

pub returns-in_err-next_in-clause-gap : goal.returns-in_err-next_in-clause-gap
returns-in_err-next_in-clause-gap c =
    let s : PlainSource = plain_source c.args.source.now in
    let m : Meaning = expansion_of s in
    let error = err_from_is_err_and c.from_residual.result c.from_residual.ensures.1 in
    exits (IsGapError m) c.from_residual.result _ (error.1 ∙ ap Err error.2)
    (error-passes (rest_of s c.args.phrase) m (on-top s m c.args.stack.now.items c.args.phrase c.requires.stand).1 _ c.in_err-next_in.ensures.large)

pub returns-in-None-clause-stand : goal.returns-in-None-clause-stand
returns-in-None-clause-stand c =
    let s : PlainSource = plain_source c.args.source.now in
    on_ok_weaker c.note.result (λ e. below-top s (expansion_of s) c.args.stack.now.items c.args.phrase c.requires.stand) c.note.ensures.noted

pub returns-in-None-clause-done : goal.returns-in-None-clause-done
returns-in-None-clause-done c =
    let s : PlainSource = plain_source c.args.source.now in
    let o = c.args.phrase in
    let w = c.work_of.result in
    let opened = (on-top s (expansion_of s) c.args.stack.now.items o c.requires.stand).0 in
    let work : IsWorkOf w o.function.now o.tree.now = record { function = c.work_of.ensures.function; production = c.work_of.ensures.production; start = c.work_of.ensures.start; end = c.work_of.ensures.end } in
    let ended = subst (IsNext s o) c.in-None.is c.in_ok-next_in.ensures.next in
    on_ok_weaker c.note.result
    (λ more. done-more s c.args.done.now.keys c.note.new.done.keys w o.function.now o.tree.now c.requires.uniform c.requires.done work opened.held (no-gap-left s o opened ended) more)
    c.note.ensures.noted

pub returns-in-None-clause-gap : goal.returns-in-None-clause-gap
returns-in-None-clause-gap c = c.note.ensures.memory (expansion_of (plain_source c.args.source.now))

pub returns-in-Some-Node-clause-stand : goal.returns-in-Some-Node-clause-stand
returns-in-Some-Node-clause-stand c =
    let s : PlainSource = plain_source c.args.source.now in
    let m : Meaning = expansion_of s in
    let o = c.args.phrase in
    let os = c.args.stack.now.items in
    let l = label_of c.in-Some-Node.field-0-0 in
    let next = subst (IsNext s o) (c.in-Some-Node.is ∙ ap Some c.in-Some-Node.field-0-is) c.in_ok-next_in.ensures.next in
    let after : IsAfter o c.after.result = record { equation = c.after.ensures.equation; function = c.after.ensures.function; tree = c.after.ensures.tree; next = c.after.ensures.next } in
    let step = stepped s o c.after.result (Ok (l ∷ [])) (l ∷ []) after refl next.0 (on-top s m os o c.requires.stand).0 in
    on_ok_weaker c.push_open.result (λ e. subst (Stand s m) (sym e) (top-changed s m os o c.after.result c.requires.stand step)) c.push_open.ensures.pushed

pub returns-in-Some-Node-clause-gap : goal.returns-in-Some-Node-clause-gap
returns-in-Some-Node-clause-gap c = c.push_open.ensures.memory (expansion_of (plain_source c.args.source.now))
