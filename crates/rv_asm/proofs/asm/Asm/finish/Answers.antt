-- What a machine does at the items follows from the bound on the code, and from that no label is placed twice.
use Rattle.std.proofs.Common.{◌≡◌, true, subst}
use Rattle.rv_asm.specs.Assembly.{are_placed_once}
use Rattle.rv_asm.proofs.LabelsArrive.{labels-stand, jumps-arrive, taken-arrive, others-pass, addresses-load}
use Rattle.rv_asm.proofs.asm.Asm.finish.Goals as goal

pub returns-clause-labels : goal.returns-clause-labels
returns-clause-labels c =
    let once : are_placed_once c.args.self.items ≡ true = subst (λ v. are_placed_once v.items ≡ true) c.self.view_is c.self.invariant.once in
    labels-stand c.args.self.items c.requires once

pub returns-clause-jumps : goal.returns-clause-jumps
returns-clause-jumps c = jumps-arrive c.args.self.items c.requires

pub returns-clause-taken : goal.returns-clause-taken
returns-clause-taken c = taken-arrive c.args.self.items c.requires

pub returns-clause-passed : goal.returns-clause-passed
returns-clause-passed c = others-pass c.args.self.items c.requires

pub returns-clause-addresses : goal.returns-clause-addresses
returns-clause-addresses c = addresses-load c.args.self.items c.requires
