use Rattle.rv_machine.proofs.RunEnds.{begins, goes-on, goes-on-plainly, ends-all, ends-exit, ends-trap, ends-fault}
use Rattle.std.proofs.Common.{◌≡◌, arith}
use Rattle.rv_machine.proofs.machine.Machine.run.Goals as goal

pub loop-i-init : goal.loop-i-init
loop-i-init g c = begins _ _ _ _ c.args.self.now c.args.input.now c.args.out.now

pub loop-i-preserved : goal.loop-i-preserved
loop-i-preserved g c =
    let ran = rw (rw c.if-plain.false at c.plain.ensures.stays) at c.in-Ran.ensures in
    goes-on _ _ _ _ _ c.loop-i._i _ _ _ _ _ _ c.loop-i.invariant c.step.new.self c.step.new.input c.step.new.out ran

pub loop-i-preserved-then-plain : goal.loop-i-preserved-then-plain
loop-i-preserved-then-plain g c =
    let ran = rw c.if-plain.true at c.plain.ensures.ran in
    goes-on-plainly _ _ _ _ g.K.Sink.last_failed c.loop-i._i _ _ _ _ _ _ c.loop-i.invariant c.plain.new.self ran

pub returns-in-Exited : goal.returns-in-Exited
returns-in-Exited g c =
    let ended = rw (rw c.if-plain.false at c.plain.ensures.stays) at c.in-Exited.ensures in
    ends-exit _ _ _ _ _ c.loop-i._i _ _ _ _ _ _ c.loop-i.invariant c.args.budget c.in-Exited.code c.step.new.self c.step.new.input c.step.new.out
    c.loop-i-test.true ended

pub returns-in-Trapped : goal.returns-in-Trapped
returns-in-Trapped g c =
    let ended = rw (rw c.if-plain.false at c.plain.ensures.stays) at c.in-Trapped.ensures in
    ends-trap _ _ _ _ _ c.loop-i._i _ _ _ _ _ _ c.loop-i.invariant c.args.budget c.in-Trapped.cause c.in-Trapped.pc c.step.new.self c.step.new.input
    c.step.new.out c.loop-i-test.true ended

pub returns-in-SinkFault : goal.returns-in-SinkFault
returns-in-SinkFault g c =
    let ended = rw (rw c.if-plain.false at c.plain.ensures.stays) at c.in-SinkFault.ensures in
    ends-fault _ _ _ _ _ c.loop-i._i _ _ _ _ _ _ c.loop-i.invariant c.args.budget c.step.new.self c.step.new.input c.step.new.out c.loop-i-test.true
    ended

pub returns : goal.returns
returns g c =
    let all : c.loop-i._i ≡ c.args.budget = omega arith in
    rw (← all) (ends-all _ _ _ _ _ c.loop-i._i _ _ _ _ _ _ c.loop-i.invariant)
