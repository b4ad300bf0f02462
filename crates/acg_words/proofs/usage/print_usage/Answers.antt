use Rattle.std.proofs.Common.{◌++◌}
use Rattle.std.specs.List.{flat_map}
use Rattle.std.proofs.lemmas.Result.{err_from_is_err_and}
use Rattle.acg_words.specs.Usage.{usage, option_line, options, status_line, statuses}
use Rattle.acg_words.proofs.PrintsLemmas.{broke-first, broke-then, printed-err, printed-then, printed-took}
use Rattle.acg_words.proofs.usage.print_usage.Goals as goal

pub returns-in_err-print_commands : goal.returns-in_err-print_commands
unfolding usage
returns-in_err-print_commands g c =
    let error = err_from_is_err_and c.from_residual.result c.from_residual.ensures.1 in
    printed-err c.print_commands.result c.from_residual.result c.in_err-print_commands.was error.1 c.print_commands.ensures
    (broke-first (flat_map option_line options ++ flat_map status_line statuses))

pub returns-in_err-print_options : goal.returns-in_err-print_options
unfolding usage
returns-in_err-print_options g c =
    let error = err_from_is_err_and c.from_residual-in_err-print_options.result c.from_residual-in_err-print_options.ensures.1 in
    let begun = printed-took c.print_commands.result c.in_ok-print_commands.was c.print_commands.ensures in
    printed-err c.print_options.result c.from_residual-in_err-print_options.result c.in_err-print_options.was error.1 c.print_options.ensures
    (λ broke. broke-then begun (broke-first (flat_map status_line statuses) broke))

pub returns : goal.returns
unfolding usage
returns g c =
    let begun = printed-took c.print_commands.result c.in_ok-print_commands.was c.print_commands.ensures in
    let more = printed-took c.print_options.result c.in_ok-print_options.was c.print_options.ensures in
    printed-then c.print_statuses.result begun (printed-then c.print_statuses.result more c.print_statuses.ensures)
