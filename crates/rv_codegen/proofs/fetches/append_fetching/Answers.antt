use Rattle.rv_codegen.proofs.Emitting.{OnOk-then}
use Rattle.rv_codegen.proofs.fetches.append_fetching.Goals as goal

pub returns-clause-marks : goal.returns-clause-marks
returns-clause-marks c =
    OnOk-then c.append_way.result (λ m l ne nj h. m c.args.k l ne nj (c.in_ok-append_fetches.ensures.marks l ne nj h)) c.append_way.ensures.marks
