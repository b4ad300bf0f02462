use Rattle.std.proofs.Common.{[], ◌++◌, arith}
use Rattle.rv_code.specs.Machine.{run}
use Rattle.rv_machine.specs.Machines.{state_of, sent_in}
use Rattle.acg_words.specs.Lines.{bytes_of, status_of}
use Rattle.acg_driver.specs.Runs.{output_lines, IsRunOf, IsRun}
use Rattle.acg_driver.proofs.LoadedRuns.{small-byte, loaded-sends, loaded-run}
use Rattle.acg_driver.proofs.RunLemmas.{whole-run}
use Rattle.acg_driver.proofs.Saying.{said-then, said-broke}
use Rattle.acg_driver.proofs.running.run.Goals as goal

pub run_machine-requires : goal.run_machine-requires
run_machine-requires g c = loaded-sends c.requires.0 c.args.capacity c.args.loaded.now c.args.input.now (λ k d below. small-byte c.args.input.now k d below (c.type_inv.input k)) c.requires.1

pub returns-in-Ok : goal.returns-in-Ok
returns-in-Ok g c = λ graph loaded.
    let input = c.args.input.now in
    said-then {P = IsRunOf (run c.args.budget (state_of c.args.loaded.now.machine input []))} {Q = IsRun graph c.args.capacity c.args.budget input} c.in-Ok.ensures.printed.done
    (loaded-run graph c.args.capacity c.args.budget c.args.loaded.now input (λ k d below. small-byte c.args.input.now k d below (c.type_inv.input k)) loaded)
    c.run_machine.ensures

pub returns-in-Err-Failed : goal.returns-in-Err-Failed
returns-in-Err-Failed g c = λ graph loaded.
    let input = c.args.input.now in
    let machine = c.args.loaded.now.machine in
    let whole = whole-run c.args.budget machine input (loaded-sends graph c.args.capacity c.args.loaded.now input (λ k d below. small-byte c.args.input.now k d below (c.type_inv.input k)) loaded) in
    let rest = output_lines (sent_in c.args.budget machine input) ++ bytes_of whole.line in
    said-broke {P = IsRun graph c.args.capacity c.args.budget input} rest (status_of whole.line) c.in-Err-Failed.ensures.printed.failed
    (loaded-run graph c.args.capacity c.args.budget c.args.loaded.now input (λ k d below. small-byte c.args.input.now k d below (c.type_inv.input k)) loaded rest (status_of whole.line) whole.right)
