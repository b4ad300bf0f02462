use Rattle.rv_machine.proofs.QuietEnds.{RanSilently}
use Rattle.rv_machine.proofs.machine.Machine.run_quietly.Given as goal

abbrev pub invariant-loop-ran : goal.invariant-loop-ran
invariant-loop-ran l = RanSilently l.ran l.fn.self l.fn.input l.self l.input
