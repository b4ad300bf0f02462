use Rattle.std.proofs.Common.{◌≡◌, w64, rules, subst}
use Rattle.std.proofs.lemmas.Result.{err_from_is_err_and}
use mir.Val.{of_z, to_z}
use Rattle.acg_words.specs.Lines.{message_line}
use Rattle.acg_words.specs.Prints.{Took, Broke}
use Rattle.acg_words.proofs.PrintsLemmas.{printed-err, printed-took}
use Rattle.acg_driver.specs.Runs.{output_lines}
use Rattle.acg_driver.proofs.Saying.{front-none, front-more, front-broke, front-whole}
use Rattle.acg_driver.proofs.machine_run.print_messages.Goals as goal

pub loop-message-init : goal.loop-message-init
loop-message-init g c = front-none (output_lines c.args.bytes.now) c.args.out.now

pub loop-message-preserved : goal.loop-message-preserved
loop-message-preserved g c =
    let same : to_z w64 (of_z w64 c.in-Some.message) ≡ c.in-Some.message = search rules in
    front-more c.loop-message.rest.now c.in-Some.behind.now c.in-Some.message c.in-Some.ensures.first c.loop-message.invariant
    (subst (λ m. Took g.K.Sink (message_line m) c.loop-message.out c.print_message.new.out) same
    (printed-took c.print_message.result c.in_ok-print_message.was c.print_message.ensures.printed))

pub returns-in_err-print_message : goal.returns-in_err-print_message
returns-in_err-print_message g c =
    let error = err_from_is_err_and c.from_residual.result c.from_residual.ensures.1 in
    let same : to_z w64 (of_z w64 c.in-Some.message) ≡ c.in-Some.message = search rules in
    printed-err c.print_message.result c.from_residual.result c.in_err-print_message.was error.1 c.print_message.ensures.printed
    (λ broke. front-broke c.loop-message.rest.now c.in-Some.behind.now c.in-Some.message c.in-Some.ensures.first c.loop-message.invariant
    (subst (λ m. Broke g.K.Sink (message_line m) c.loop-message.out c.print_message.new.out) same broke))

pub returns : goal.returns
returns g c = record { done = front-whole c.loop-message.rest.now c.in_default.ensures.none c.loop-message.invariant; failed = tt }
