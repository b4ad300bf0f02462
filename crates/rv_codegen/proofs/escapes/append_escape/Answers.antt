use Rattle.rv_codegen.proofs.Emitting.{OnOk-then, address-short, jumping-keeps}
use Rattle.rv_codegen.proofs.escapes.append_escape.Goals as goal

pub returns-clause-marks : goal.returns-clause-marks
returns-clause-marks c = OnOk-then c.jump.result (λ jumps. jumping-keeps c.args.asm.now c.append_address.new.asm c.jump.new.self _ _ c.in_ok-append_address.ensures jumps c.args.k) c.jump.ensures.ok

pub returns-clause-short : goal.returns-clause-short
returns-clause-short c = OnOk-then c.jump.result (λ jumps. address-short c.args.asm.now c.append_address.new.asm c.jump.new.self c.first_word-first.result _ c.in_ok-append_address.ensures jumps) c.jump.ensures.ok
