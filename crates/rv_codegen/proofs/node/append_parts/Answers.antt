use Rattle.rv_codegen.proofs.Emitting.{OnOk-then}
use Rattle.rv_codegen.proofs.node.append_parts.Goals as goal

pub returns-clause-marks : goal.returns-clause-marks
returns-clause-marks c = OnOk-then c.append_way.result (λ m. m c.args.k) c.append_way.ensures.marks
