use Rattle.std.proofs.Common.{ℕ, List, Bor, arith}
use Rattle.std.proofs.lemmas.Result.{err_from_is_err_and}
use Rattle.acg_words.proofs.Flat.{broke-more, broken-more}
use Rattle.acg_words.proofs.PrintsLemmas.{printed-err, broken-err}
use Rattle.acg_words.proofs.prints.print_all.Goals as goal

pub returns-in_err-print-clause-printed : goal.returns-in_err-print-clause-printed
returns-in_err-print-clause-printed g c =
    let error = err_from_is_err_and c.from_residual.result c.from_residual.ensures.1 in
    printed-err c.print.result c.from_residual.result c.in_err-print.was error.1 c.print.ensures.printed
    (broke-more (λ (x : Bor (List ℕ)). x.now) c.args.pieces.now c.loop-piece.piece-index _ (omega arith) c.loop-piece.invariant.took)

pub returns-in_err-print-clause-broken : goal.returns-in_err-print-clause-broken
returns-in_err-print-clause-broken g c =
    let error = err_from_is_err_and c.from_residual.result c.from_residual.ensures.1 in
    let kept = c.loop-piece.invariant in
    broken-err c.print.result c.from_residual.result c.in_err-print.was error.1 c.print.ensures.printed
    (broken-more (λ (x : Bor (List ℕ)). x.now) c.args.pieces.now c.loop-piece.piece-index _ (omega arith)
    kept.took kept.writes c.print.ensures.once)
