use Rattle.std.proofs.Common.{ℕ, List, Bor, option_map}
use Rattle.acg_words.specs.Commands.{perform_asked}
use Rattle.acg_driver.proofs.PerformLemmas.{starts-at, perform-said}
use Rattle.acg_driver.proofs.Handling.{handled-refused, handled-said}
use Rattle.acg_driver.proofs.commands.perform.perform.Goals as goal

pub take_steps-requires : goal.take_steps-requires
take_steps-requires g c =
    let wanted = c.in-Ok.ensures.wanted in
    starts-at (option_map {T = Bor (List ℕ)} (λ f. f.now) c.args.command.input) wanted.0 c.in-Ok.performer wanted.1

pub returns-in-Ok : goal.returns-in-Ok
returns-in-Ok g c =
    let wanted = c.in-Ok.ensures.wanted in
    let said = perform-said c.args.command.number (option_map {T = Bor (List ℕ)} (λ f. f.now) c.args.command.input) wanted.0 c.in-Ok.performer wanted.1 c.take_steps.ensures in
    handled-said (perform_asked c.args.command) c.in-Ok.performer c.in-Ok.ensures said.0 said.1 (λ none. cc)

pub returns : goal.returns
returns g c = handled-refused (perform_asked c.args.command) c.in-Err.line c.in-Err.ensures c.answer.ensures.answered (λ none. cc)
