use Rattle.rv_machine.proofs.RunEnds.{RanSo}
use Rattle.rv_machine.proofs.machine.Machine.run.Given as goal

abbrev pub invariant-loop-i : goal.invariant-loop-i
invariant-loop-i g l =
    RanSo g.K.Sink.written g.K.Sink.faults g.K.Sink.writes g.K.Sink.tells l._i l.fn.self l.fn.input l.fn.out l.self l.input l.out
