use Rattle.std.proofs.Common.{◌≡◌, rules}
use Rattle.rv_code.specs.declared.instruction.Inst.TheVariants.{Ecall}
use Rattle.rv_machine.proofs.SilentLaws.{trap-silent, other-silent, call-silent-unless}
use Rattle.rv_machine.proofs.machine.Machine.is_at_send.Goals as goal

pub returns-in-Err : goal.returns-in-Err
returns-in-Err c = record { yes = tt; no = trap-silent c.args.self.now c.in-Err._cause c.in-Err.ensures.next }

pub returns-in-Ok-Ecall-clause-no : goal.returns-in-Ok-Ecall-clause-no
returns-in-Ok-Ecall-clause-no c =
    let next = rw c.in-Ok-Ecall.field-0-is at c.in-Ok-Ecall.ensures.next in
    call-silent-unless c.args.self.now c.calls_send.result (record { next = next }) c.calls_send.ensures

pub returns-in-Ok : goal.returns-in-Ok
returns-in-Ok c =
    let plain : c.in-Ok._inst ≡ Ecall → ⊥ = search rules in
    record { yes = tt; no = other-silent c.args.self.now c.in-Ok._inst c.in-Ok.ensures.next plain }
