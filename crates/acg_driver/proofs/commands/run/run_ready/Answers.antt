use Rattle.std.proofs.Common.{◌≡◌, ℕ, List, [], ◌++◌, refl, subst}
use Rattle.rv_machine.specs.Machines.{left, state_of, sent, sent_in}
use Rattle.acg_words.specs.Lines.{bytes_of, status_of}
use Rattle.acg_words.specs.declared.line.Line.TheVariants as line
use Rattle.acg_base.specs.declared.status.Status.TheVariants as status
use Rattle.acg_driver.specs.Says.{Said}
use Rattle.acg_driver.specs.Commands.Run.{IsRunFrom}
use Rattle.acg_driver.proofs.Saying.{said-line, said-broke}
use Rattle.acg_driver.proofs.ImageRuns.{exit-says, trap-says, running-says, passes-at, broke-at}
use Rattle.acg_driver.proofs.commands.run.run_ready.Goals as goal

pub returns-in-Exited : goal.returns-in-Exited
returns-in-Exited g c =
    let ran = c.in-Exited.ensures in
    let budget = c.args.budget in
    let m = c.args.ready.now.machine in
    let i = c.deref.result.now in
    let code = c.in-Exited.code in
    let SaidOn : List ℕ → Type 0 = λ input. Said g.K.Sink (IsRunFrom budget (state_of m input [])) c.args.out.now c.answer.new.out c.answer.result in
    subst SaidOn c.deref.ensures.value
    (said-line {P = IsRunFrom budget (state_of m i [])} (line.Exited code)
    (record { wrote = ran.told (λ e. cc); still = ran.still (λ e. cc); tells_still = ran.tells_still })
    c.answer.ensures.answered
    (exit-says budget m i code (ran.exited code refl).0))

pub returns-in-Trapped : goal.returns-in-Trapped
returns-in-Trapped g c =
    let ran = c.in-Trapped.ensures in
    let budget = c.args.budget in
    let m = c.args.ready.now.machine in
    let i = c.deref.result.now in
    let cause = c.in-Trapped.cause in
    let pc = c.in-Trapped.pc in
    let below = ran.fewer (λ e. cc) in
    let traps = ran.trapped cause pc refl in
    let SaidOn : List ℕ → Type 0 = λ input. Said g.K.Sink (IsRunFrom budget (state_of m input [])) c.args.out.now c.answer-in-Trapped.new.out c.answer-in-Trapped.result in
    subst SaidOn c.deref.ensures.value
    (said-line {P = IsRunFrom budget (state_of m i [])} (line.Trapped cause pc)
    (record { wrote = ran.told (λ e. cc); still = ran.still (λ e. cc); tells_still = ran.tells_still })
    c.answer-in-Trapped.ensures.answered
    (trap-says below.0 budget m i c.run.new.self (left c.run.new.input) cause pc below.1.1.0 traps.1.0 below.1.0 traps.1.1 traps.0))

pub returns-in-Budget : goal.returns-in-Budget
returns-in-Budget g c =
    let ran = c.in-Budget.ensures in
    let budget = c.args.budget in
    let m = c.args.ready.now.machine in
    let i = c.deref.result.now in
    let SaidOn : List ℕ → Type 0 = λ input. Said g.K.Sink (IsRunFrom budget (state_of m input [])) c.args.out.now c.answer-in-Budget.new.out c.answer-in-Budget.result in
    subst SaidOn c.deref.ensures.value
    (said-line {P = IsRunFrom budget (state_of m i [])} line.Running
    (record { wrote = ran.told (λ e. cc); still = ran.still (λ e. cc); tells_still = ran.tells_still })
    c.answer-in-Budget.ensures.answered
    (running-says budget m i c.run.new.self (left c.run.new.input) (ran.all refl).0))

pub returns-in-SinkFault : goal.returns-in-SinkFault
returns-in-SinkFault g c =
    let ran = c.in-SinkFault.ensures in
    let budget = c.args.budget in
    let m = c.args.ready.now.machine in
    let i = c.deref.result.now in
    let part = ran.part refl in
    let fault = ran.fault refl in
    let failed = ran.failed refl in
    let passes = passes-at part.0 budget m i c.run.new.self (left c.run.new.input) part.1.0 part.1.1.0 fault.0 fault.1 in
    let SaidOn : List ℕ → Type 0 = λ input. Said g.K.Sink (IsRunFrom budget (state_of m input [])) c.args.out.now c.run.new.out status.WriteFault in
    subst SaidOn c.deref.ensures.value
    (said-broke {P = IsRunFrom budget (state_of m i [])} (passes.rest ++ bytes_of passes.line) (status_of passes.line)
    (broke-at (sent_in part.0 m i) (sent c.run.new.self) part.1.1.1.1.1 failed.0 failed.1 ran.tells_still)
    passes.right)
