use Rattle.std.proofs.Common.{rules, append-nil}
use Rattle.rv_machine.proofs.StepsLemmas.{send-none, send-none-steps}
use Rattle.rv_machine.specs.Machines.{left}
use Rattle.rv_machine.proofs.machine.Machine.send.Goals as goal

pub returns-then-size-eq0 : goal.returns-then-size-eq0
returns-then-size-eq0 c =
    let none = send-none c.args.self.now c.args.address c.args.size c.requires c.if-size-eq0.true in
    let steps = send-none-steps c.args.self.now c.set.new.self c.args.address c.args.size (left c.args.input.now) c.requires c.if-size-eq0.true c.set.ensures in
    search (rules, append-nil)
