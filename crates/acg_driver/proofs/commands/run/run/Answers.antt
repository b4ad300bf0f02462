use Rattle.std.proofs.Common.{ℕ, List, Bor, option_map}
use Rattle.acg_words.specs.Commands.{run_asked}
use Rattle.acg_driver.proofs.ImageLemmas.{run-said}
use Rattle.acg_driver.proofs.Handling.{handled-refused, handled-said}
use Rattle.acg_driver.proofs.commands.run.run.Goals as goal

pub returns-in-Ok : goal.returns-in-Ok
returns-in-Ok g c =
    let wanted = c.in-Ok.ensures.wanted in
    let said = run-said c.args.command.budget (option_map {T = Bor (List ℕ)} (λ f. f.now) c.args.command.input) wanted.0 c.in-Ok.ready wanted.1 c.run_ready.ensures in
    handled-said (run_asked c.args.command) c.in-Ok.ready c.in-Ok.ensures said.0 said.1 (λ none. cc)

pub returns-in-Err : goal.returns-in-Err
returns-in-Err g c = handled-refused (run_asked c.args.command) c.in-Err.line c.in-Err.ensures c.answer.ensures.answered (λ none. cc)
