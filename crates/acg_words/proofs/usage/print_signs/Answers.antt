use Rattle.std.proofs.Common.{arith, add-one}
use Rattle.std.proofs.lemmas.Result.{err_from_is_err_and}
use Rattle.acg_words.specs.Usage.{option_text}
use Rattle.acg_words.proofs.Flat.{took-more, broke-more}
use Rattle.acg_words.proofs.PrintsLemmas.{printed-took, printed-err}
use Rattle.acg_words.proofs.usage.print_signs.Goals as goal

pub returns-in_err-print_sign : goal.returns-in_err-print_sign
returns-in_err-print_sign g c =
    let error = err_from_is_err_and c.from_residual.result c.from_residual.ensures.1 in
    printed-err c.print_sign.result c.from_residual.result c.in_err-print_sign.was error.1 c.print_sign.ensures
    (broke-more option_text c.args.settings.now c.loop-setting.setting-index _ (omega arith) c.loop-setting.invariant)

pub loop-setting-preserved : goal.loop-setting-preserved
loop-setting-preserved g c =
    let took = printed-took c.print_sign.result c.in_ok-print_sign.was c.print_sign.ensures in
    rw add-one (took-more option_text c.args.settings.now c.loop-setting.setting-index _ (omega arith) c.loop-setting.invariant took)
