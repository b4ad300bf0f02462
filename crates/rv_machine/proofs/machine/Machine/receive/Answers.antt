use Rattle.rv_machine.proofs.StepsLemmas.{receive-silent, receive-none, receive-some}
use Rattle.rv_machine.specs.Machines.{left}
use Rattle.rv_machine.proofs.machine.Machine.receive.Goals as goal

pub returns-then-size-eq0-clause-ran : goal.returns-then-size-eq0-clause-ran
returns-then-size-eq0-clause-ran c =
    receive-none c.args.self.now c.set.new.self c.args.address c.args.size (left c.args.input.now) c.requires c.if-size-eq0.true c.set.ensures

pub returns-then-size-eq0-clause-silent : goal.returns-then-size-eq0-clause-silent
returns-then-size-eq0-clause-silent c = receive-silent c.args.self.now c.args.address c.args.size c.requires

pub returns-in-None-clause-silent : goal.returns-in-None-clause-silent
returns-in-None-clause-silent c = receive-silent c.args.self.now c.args.address c.args.size c.requires

pub returns-in-Some-clause-ran : goal.returns-in-Some-clause-ran
returns-in-Some-clause-ran c =
    let e = c.in-Some.ensures in
    receive-some c.args.self.now c.set-in-Some.new.self c.args.address c.args.size c.in-Some.count c.args.input.now c.take_input.new.input
    c.take_input.new.self.segments c.requires c.if-size-eq0.false e.count e.written e.input (rw c.take_input.ensures.others at c.set-in-Some.ensures)

pub returns-in-Some-clause-silent : goal.returns-in-Some-clause-silent
returns-in-Some-clause-silent c = receive-silent c.args.self.now c.args.address c.args.size c.requires
