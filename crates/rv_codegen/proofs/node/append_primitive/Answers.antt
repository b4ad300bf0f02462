use Rattle.rv_codegen.proofs.Emitting.{OnOk-then}
use Rattle.rv_codegen.proofs.node.append_primitive.Goals as goal

pub returns-in-Complete-clause-marks : goal.returns-in-Complete-clause-marks
returns-in-Complete-clause-marks c = OnOk-then c.append_way.result (λ m. m c.args.k) c.append_way.ensures.marks
