use Rattle.std.proofs.Common.{◌-◌, ◌≤◌, []}
use Rattle.rv_machine.specs.Machines.{left, sent_in, Runs}
use Rattle.acg_words.specs.Prints.{Took}
use Rattle.acg_driver.specs.Runs.{output_lines}
use Rattle.acg_driver.proofs.machine_run.run_machine.Given as goal

abbrev pub invariant-runs : goal.invariant-runs
invariant-runs g l = record {
  within : l.ran ≤ l.fn.budget;
  ran : Runs l.ran l.fn.machine l.fn.input l.machine (left l.input);
  took : Took g.K.Sink (output_lines (sent_in l.ran l.fn.machine l.fn.input)) l.fn.out l.out;
}

abbrev pub decreases-runs : goal.decreases-runs
decreases-runs g l = l.fn.budget - l.ran
