use Rattle.std.proofs.Common.{refl}
use Rattle.rv_machine.proofs.SilentLaws.{sent-steps}
use Rattle.rv_machine.proofs.machine.Machine.pass_over.Goals as goal

pub returns : goal.returns
returns c = record {
  ran = λ input. sent-steps c.args.self.now c.count.new.self input c.requires (rw (c.count.ensures, c.set.ensures, c.register-size.ensures) refl);
  taken = rw (c.count.ensures, c.set.ensures) refl;
}
