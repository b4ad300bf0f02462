use Rattle.std.proofs.Common.{refl, sym}
use Rattle.rv_machine.proofs.StepsLemmas.{send-some}
use Rattle.rv_machine.proofs.machine.Machine.lent.Goals as goal

pub returns : goal.returns
returns c =
    let e = c.in-Some.ensures in
    let bytes = sym (send-some c.args.self.now c.args.address c.args.size c.in-Some.bytes.now c.requires.at c.requires.some e.bytes) in
    ((refl, λ _. tt, c.readable.follows.holds-at-none), record { stays = tt; bytes = bytes })
