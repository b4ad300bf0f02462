use Rattle.std.proofs.Common.{arith, add-one}
use Rattle.std.proofs.lemmas.Result.{err_from_is_err_and}
use Rattle.acg_words.specs.Usage.{option_line}
use Rattle.acg_words.proofs.Flat.{took-more, broke-more}
use Rattle.acg_words.proofs.PrintsLemmas.{printed-took, printed-err}
use Rattle.acg_words.proofs.usage.print_options.Goals as goal

pub returns-in_err-print_setting : goal.returns-in_err-print_setting
returns-in_err-print_setting g c =
    let error = err_from_is_err_and c.from_residual.result c.from_residual.ensures.1 in
    printed-err c.print_setting.result c.from_residual.result c.in_err-print_setting.was error.1 c.print_setting.ensures
    (broke-more option_line c.args.settings.now c.loop-setting.setting-index _ (omega arith) c.loop-setting.invariant)

pub loop-setting-preserved : goal.loop-setting-preserved
loop-setting-preserved g c =
    let took = printed-took c.print_setting.result c.in_ok-print_setting.was c.print_setting.ensures in
    rw add-one (took-more option_line c.args.settings.now c.loop-setting.setting-index _ (omega arith) c.loop-setting.invariant took)
