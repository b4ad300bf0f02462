use Rattle.std.proofs.Common.{◌∙◌, Err, sym, ap, subst}
use Rattle.std.proofs.lemmas.Result.{err_from_is_err_and}
use Rattle.gram_form.specs.Trees.{plain_tree}
use Rattle.equation_expand.specs.Expanded.{IsExpandError}
use Rattle.equation_expand.specs.Kept.{HaveForms}
use Rattle.equation_expand.proofs.Expansions.{filling-error, graph-expanded, same-expansion, stray-expanded, whole-nodes}
use Rattle.equation_expand.proofs.FilledItems.{exits}
use Rattle.equation_expand.proofs.Roots.{lexemes-formed, root-fits, root-means}
use Rattle.equation_expand.proofs.expanding.expand.Goals as goal

pub cover-requires-clause-fit : goal.cover-requires-clause-fit
cover-requires-clause-fit c =
    let e = c.in_ok-source.ensures in
    let same = same-expansion c.in_ok-source.source c.args.description.now c.args.lexemes.now c.args.tree.now e.description e.lexemes e.tree in
    λ h. root-fits c.args.description.now e.checked c.args.lexemes.now (plain_tree c.args.tree.now) c.requires.tree (sym same ∙ h)

pub returns-in_err-fill-clause-error : goal.returns-in_err-fill-clause-error
returns-in_err-fill-clause-error c =
    let e = c.in_ok-source.ensures in
    let d = c.args.description.now in
    let ls = c.args.lexemes.now in
    let t = plain_tree c.args.tree.now in
    let same = same-expansion c.in_ok-source.source d ls c.args.tree.now e.description e.lexemes e.tree in
    let forms = subst HaveForms e.lexemes (lexemes-formed c.in_ok-source.source.lexemes.now) in
    let error = err_from_is_err_and c.from_residual-in_err-fill.result c.from_residual-in_err-fill.ensures.1 in
    exits (IsExpandError d ls t) c.from_residual-in_err-fill.result _ (error.1 ∙ ap Err error.2)
    (filling-error c.in_ok-source.source d ls t same (root-means d e.checked ls e.templates forms t) _ c.in_err-fill.ensures.error)

pub seal-requires : goal.seal-requires
seal-requires c =
    let e = c.in_ok-source.ensures in
    let d = c.args.description.now in
    let ls = c.args.lexemes.now in
    let t = plain_tree c.args.tree.now in
    let same = same-expansion c.in_ok-source.source d ls c.args.tree.now e.description e.lexemes e.tree in
    let forms = subst HaveForms e.lexemes (lexemes-formed c.in_ok-source.source.lexemes.now) in
    whole-nodes d ls t _ (root-means d e.checked ls e.templates forms t _ (sym same ∙ c.in_ok-fill.ensures.filled))

pub returns-in-Ok-clause-graph : goal.returns-in-Ok-clause-graph
returns-in-Ok-clause-graph c =
    let e = c.in_ok-source.ensures in
    let d = c.args.description.now in
    let ls = c.args.lexemes.now in
    let t = plain_tree c.args.tree.now in
    let same = same-expansion c.in_ok-source.source d ls c.args.tree.now e.description e.lexemes e.tree in
    let forms = subst HaveForms e.lexemes (lexemes-formed c.in_ok-source.source.lexemes.now) in
    graph-expanded d ls t _ _ (root-means d e.checked ls e.templates forms t _ (sym same ∙ c.in_ok-fill.ensures.filled)) c.in-Ok.ensures.graph

pub returns-in-Err-StrayUnfold-clause-error : goal.returns-in-Err-StrayUnfold-clause-error
returns-in-Err-StrayUnfold-clause-error c =
    let e = c.in_ok-source.ensures in
    let d = c.args.description.now in
    let ls = c.args.lexemes.now in
    let t = plain_tree c.args.tree.now in
    let same = same-expansion c.in_ok-source.source d ls c.args.tree.now e.description e.lexemes e.tree in
    let forms = subst HaveForms e.lexemes (lexemes-formed c.in_ok-source.source.lexemes.now) in
    stray-expanded d ls t _ c.in-Err-StrayUnfold.node (root-means d e.checked ls e.templates forms t _ (sym same ∙ c.in_ok-fill.ensures.filled)) c.in_ok-fill.ensures.few
    (c.seal.ensures.stray c.in-Err-StrayUnfold.node (c.in-Err-StrayUnfold.is ∙ ap Err c.in-Err-StrayUnfold.field-0-is))
