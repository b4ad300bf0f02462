use Rattle.std.proofs.Common.{refl, sym}
use Rattle.rv_machine.proofs.StepsLemmas.{send-unread, send-read}
use Rattle.rv_machine.proofs.machine.Machine.sending.Goals as goal

pub returns-in-None : goal.returns-in-None
returns-in-None c =
    let at = rw (← c.register-address.ensures, ← c.register-size.ensures) at c.if-not-is_at_send.ensures.yes in
    let bytes = sym (send-unread c.args.self.now c.register-address.result c.register-size.result at c.in-None.ensures.bytes) in
    ((refl, λ _. tt, c.readable.follows.holds-at-none), record { stays = tt; bytes = bytes })

pub returns-in-Some : goal.returns-in-Some
returns-in-Some c =
    let at = rw (← c.register-address.ensures, ← c.register-size.ensures) at c.if-not-is_at_send.ensures.yes in
    let read = c.in-Some.ensures in
    let bytes = sym (send-read c.args.self.now c.register-address.result c.register-size.result c.in-Some.bytes.now at read.bytes read.length) in
    ((refl, λ _. tt, c.readable.follows.holds-at-none), record { stays = tt; bytes = bytes })
