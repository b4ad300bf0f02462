use Rattle.std.proofs.Common.{ℕ, List, Bor, option_map, subst}
use Rattle.action_terms.specs.Numbering.{Listed}
use Rattle.acg_words.specs.Commands.{act_asked}
use Rattle.acg_driver.specs.Runs.{IsRun, IsLoaded}
use Rattle.acg_driver.specs.Says.{Said}
use Rattle.acg_driver.proofs.ActLemmas.{act-loaded, act-said}
use Rattle.acg_driver.proofs.Handling.{handled-refused, handled-said}
use Rattle.acg_driver.proofs.commands.act.act.Goals as goal

pub run-requires : goal.run-requires
run-requires g c =
    let wanted = c.in-Ok.ensures.wanted in
    act-loaded c.args.command.capacity (option_map {T = Bor (List ℕ)} (λ f. f.now) c.args.command.input) wanted.0 c.in-Ok.ready wanted.1

pub returns-in-Ok : goal.returns-in-Ok
returns-in-Ok g c =
    let wanted = c.in-Ok.ensures.wanted in
    let cap = c.args.command.capacity in
    let ready = c.in-Ok.ready in
    let runs : (h : Listed) → IsLoaded h cap ready.loaded → Said g.K.Sink (IsRun h cap c.args.command.budget ready.input.items) c.args.out.now c.run.new.out c.run.result =
    subst (λ left. (h : Listed) → IsLoaded h cap ready.loaded → Said g.K.Sink (IsRun h cap c.args.command.budget left) c.args.out.now c.run.new.out c.run.result) c.deref.ensures.value c.run.ensures in
    let said = act-said c.args.command.capacity c.args.command.budget (option_map {T = Bor (List ℕ)} (λ f. f.now) c.args.command.input) wanted.0 ready wanted.1 runs in
    handled-said (act_asked c.args.command) c.in-Ok.ready c.in-Ok.ensures said.0 said.1 (λ none. cc)

pub returns-in-Err : goal.returns-in-Err
returns-in-Err g c = handled-refused (act_asked c.args.command) c.in-Err.line c.in-Err.ensures c.answer.ensures.answered (λ none. cc)
