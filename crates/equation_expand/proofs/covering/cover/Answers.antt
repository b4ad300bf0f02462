use Rattle.std.proofs.Common.{◌∙◌, sym, ap, subst}
use Rattle.equation_expand.specs.Frames.{IsSpanOf}
use Rattle.equation_expand.specs.PlainSources.{plain_source}
use Rattle.equation_expand.specs.Sources.{PlainSource, meaning_in}
use Rattle.equation_expand.proofs.HeldTrees.{holds-itself}
use Rattle.equation_expand.proofs.Turns.{IsWorkOf, span-of}
use Rattle.equation_expand.proofs.covering.cover.Goals as goal

pub returns-then-contains-clause-covered : goal.returns-then-contains-clause-covered
returns-then-contains-clause-covered c =
    let s : PlainSource = plain_source c.args.source.now in
    let root = c.in_ok-root.root in
    let w = c.work_of-whole.result in
    let work : IsWorkOf w root.function.now root.tree.now = record { function = c.work_of-whole.ensures.function; production = c.work_of-whole.ensures.production; start = c.work_of-whole.ensures.start; end = c.work_of-whole.ensures.end } in
    let span = subst (IsSpanOf w) c.in_ok-root.ensures.tree (span-of w root.function.now root.tree.now work) in
    let done = c.loop.invariant.done w (sym c.contains.ensures ∙ c.if-contains.true) s.tree (holds-itself s.tree) span in
    (done.0, sym (ap (meaning_in s s.tree) work.function ∙ c.in_ok-root.ensures.function) ∙ done.1)
