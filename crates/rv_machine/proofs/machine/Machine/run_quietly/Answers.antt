use Rattle.std.proofs.Common.{◌≡◌, refl, ap, ◌∙◌, arith}
use Rattle.rv_machine.proofs.QuietEnds.{begins, goes-on, goes-on-plainly, ends-all, ends-exit, ends-trap, ends-send}
use Rattle.rv_machine.proofs.machine.Machine.run_quietly.Goals as goal

pub loop-ran-init : goal.loop-ran-init
loop-ran-init c = begins c.args.self.now c.args.input.now

pub loop-ran-preserved : goal.loop-ran-preserved
loop-ran-preserved c =
    let turn = rw (rw c.if-plain.false at c.plain.ensures.stays) at c.in-Ran.ensures in
    goes-on c.loop-ran.ran _ _ _ _ c.loop-ran.invariant c.turn.new.self c.turn.new.input c.count.new.self turn c.count.ensures

pub loop-ran-preserved-then-plain : goal.loop-ran-preserved-then-plain
loop-ran-preserved-then-plain c =
    goes-on-plainly c.loop-ran.ran _ _ _ _ c.loop-ran.invariant c.plain.new.self (rw c.if-plain.true at c.plain.ensures.ran)

pub returns-in-Exited : goal.returns-in-Exited
returns-in-Exited c =
    let turn = rw (rw c.if-plain.false at c.plain.ensures.stays) at c.in-Exited.ensures in
    let stays = turn.stays (λ e. cc) in
    rw (c.behind.ensures, stays.0, stays.1)
    (ends-exit c.loop-ran.ran _ _ _ _ c.loop-ran.invariant c.args.budget c.in-Exited.code c.loop-ran-test.true (turn.exited c.in-Exited.code refl))

pub returns-in-Trapped : goal.returns-in-Trapped
returns-in-Trapped c =
    let turn = rw (rw c.if-plain.false at c.plain.ensures.stays) at c.in-Trapped.ensures in
    let stays = turn.stays (λ e. cc) in
    let at : c.self.inside.pc ≡ c.loop-ran.self.pc = ap (λ m. m.pc) c.self.view_is ∙ ap (λ m. m.pc) stays.0 in
    rw (c.behind-in-Trapped.ensures, at, stays.0, stays.1)
    (ends-trap c.loop-ran.ran _ _ _ _ c.loop-ran.invariant c.args.budget c.in-Trapped.cause c.loop-ran-test.true (turn.trapped c.in-Trapped.cause refl))

pub returns-in-Sends : goal.returns-in-Sends
returns-in-Sends c =
    let turn = rw (rw c.if-plain.false at c.plain.ensures.stays) at c.in-Sends.ensures in
    let stays = turn.stays (λ e. cc) in
    rw (c.behind-in-Sends.ensures, stays.0, stays.1)
    (ends-send c.loop-ran.ran _ _ _ _ c.loop-ran.invariant c.args.budget c.in-Sends.address c.in-Sends.size c.loop-ran-test.true
    (turn.sends c.in-Sends.address c.in-Sends.size refl))

pub returns : goal.returns
returns c =
    let all : c.loop-ran.ran ≡ c.args.budget = omega arith in
    rw (c.behind-2.ensures, ← all) (ends-all c.loop-ran.ran _ _ _ _ c.loop-ran.invariant)
