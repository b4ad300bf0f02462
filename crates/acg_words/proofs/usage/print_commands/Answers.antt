use Rattle.std.proofs.Common.{arith}
use Rattle.std.proofs.lemmas.Result.{err_from_is_err_and}
use Rattle.acg_words.specs.Usage.{command_lines}
use Rattle.acg_words.proofs.Flat.{broke-more}
use Rattle.acg_words.proofs.PrintsLemmas.{printed-err}
use Rattle.acg_words.proofs.usage.print_commands.Goals as goal

pub returns-in_err-print_command : goal.returns-in_err-print_command
returns-in_err-print_command g c =
    let error = err_from_is_err_and c.from_residual.result c.from_residual.ensures.1 in
    printed-err c.print_command.result c.from_residual.result c.in_err-print_command.was error.1 c.print_command.ensures
    (broke-more command_lines c.args.kinds.now c.loop-kind.kind-index _ (omega arith) c.loop-kind.invariant)
