use Rattle.std.proofs.Common.{arith}
use Rattle.action_terms.specs.Forms.{yielder_at}
use Rattle.rv_yield.proofs.NeedLaws.{registers-enough}
use Rattle.rv_codegen.proofs.data.append_single.Goals as goal

pub value_code-requires-clause-room : goal.value_code-requires-clause-room
value_code-requires-clause-room c = omega (arith, registers-enough (yielder_at c.args.source.now.graph.now.yielders c.args.yielder) c.requires.few)
