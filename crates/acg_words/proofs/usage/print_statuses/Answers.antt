use Rattle.std.proofs.Common.{arith}
use Rattle.std.proofs.lemmas.Result.{err_from_is_err_and}
use Rattle.acg_words.specs.Usage.{status_line}
use Rattle.acg_words.proofs.Flat.{broke-more}
use Rattle.acg_words.proofs.PrintsLemmas.{printed-err}
use Rattle.acg_words.proofs.usage.print_statuses.Goals as goal

pub returns-in_err-print_status : goal.returns-in_err-print_status
returns-in_err-print_status g c =
    let error = err_from_is_err_and c.from_residual.result c.from_residual.ensures.1 in
    printed-err c.print_status.result c.from_residual.result c.in_err-print_status.was error.1 c.print_status.ensures
    (broke-more status_line c.args.statuses.now c.loop-status.status-index _ (omega arith) c.loop-status.invariant)
