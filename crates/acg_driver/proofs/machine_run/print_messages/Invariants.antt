use Rattle.std.proofs.Common.{length}
use Rattle.acg_driver.specs.Runs.{output_lines}
use Rattle.acg_driver.proofs.Saying.{TookFront}
use Rattle.acg_driver.proofs.machine_run.print_messages.Given as goal

abbrev pub invariant-loop-message : goal.invariant-loop-message
invariant-loop-message g l = TookFront g.K.Sink (output_lines l.fn.bytes) (output_lines l.rest) l.fn.out l.out

abbrev pub decreases-loop-message : goal.decreases-loop-message
decreases-loop-message g l = length l.rest
