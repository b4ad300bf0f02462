use Rattle.std.proofs.Common.{rules, append-nil}
use Rattle.rv_machine.proofs.StepsLemmas.{plain-silent, plain-steps}
use Rattle.rv_machine.specs.Machines.{left}
use Rattle.rv_machine.proofs.machine.Machine.turn.Goals as goal

pub returns-in-Ok-execute : goal.returns-in-Ok-execute
returns-in-Ok-execute c =
    let silent = plain-silent c.args.self.now c.execute.new.self c.in-Ok.inst c.in-Ok.ensures.next c.in-Ok-execute.ensures in
    let steps = plain-steps c.args.self.now c.execute.new.self c.in-Ok.inst (left c.args.input.now) c.in-Ok.ensures.next c.in-Ok-execute.ensures in
    search (rules, append-nil)
