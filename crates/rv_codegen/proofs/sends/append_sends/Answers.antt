use Rattle.std.proofs.Common.{arith}
use Rattle.action_terms.specs.Forms.{yielder_at}
use Rattle.rv_yield.proofs.NeedLaws.{registers-enough}
use Rattle.rv_codegen.proofs.Emitting.{call-short}
use Rattle.rv_codegen.proofs.sends.append_sends.Goals as goal

pub value_code-requires-clause-room : goal.value_code-requires-clause-room
value_code-requires-clause-room c = omega (arith, registers-enough (yielder_at c.args.plan.graph.now.yielders c.args.yielder) c.requires.few)

pub returns-clause-short : goal.returns-clause-short
returns-clause-short c =
    omega (
      arith,
      c.in_ok-value_code.ensures.short,
      call-short c.value_code.new.asm c.address.new.self c.jump.new.self c.place.new.self _ _ c.in_ok-address.ensures.ok c.in_ok-jump.ensures.ok c.place.ensures,
    )
