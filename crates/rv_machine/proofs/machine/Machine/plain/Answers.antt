use Rattle.std.proofs.Common.{refl}
use Rattle.rv_machine.proofs.StepsLemmas.{plain-silent, plain-steps}
use Rattle.rv_machine.proofs.machine.Machine.plain.Goals as goal

pub returns-in-Ok : goal.returns-in-Ok
returns-in-Ok c =
    let next = rw c.in-Some-Ok.field-0-is at c.in-Some-Ok.ensures.next in
    let old = c.args.self.now in
    let new = c.execute.new.self in
    record {
      ran = rw c.count.ensures
          (record {
            ran = λ input. plain-steps old new c.in-Some-Ok.inst input next c.in-Ok.ensures;
            silent = plain-silent old new c.in-Some-Ok.inst next c.in-Ok.ensures;
            taken = rw (c.in-Ok.ensures.1) refl;
          });
      stays = tt;
    }
