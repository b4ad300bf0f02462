use Rattle.std.proofs.Common.{arith, subst}
use Rattle.rv_codegen.specs.Marks.{PlacesStop}
use Rattle.rv_codegen.proofs.Emitting.{OnOk-then, joint-fresh, stop-fresh, total-opened}
use Rattle.rv_codegen.proofs.Fresh.{fresh-behind}
use Rattle.rv_codegen.proofs.node.append_node.Goals as goal

pub append_body-requires-clause-stop : goal.append_body-requires-clause-stop
append_body-requires-clause-stop c = stop-fresh c.args.asm.now c.append_opening.new.asm c.args.k c.requires.fresh c.append_opening.ensures

pub append_body-requires-clause-joint : goal.append_body-requires-clause-joint
append_body-requires-clause-joint c = joint-fresh c.args.asm.now c.append_opening.new.asm c.args.k c.requires.fresh c.append_opening.ensures

pub returns-clause-fresh : goal.returns-clause-fresh
returns-clause-fresh c =
    let k = c.args.k in
    let behind = c.append_body.new.asm.items in
    OnOk-then c.append_body.result (λ places. fresh-behind c.args.asm.now.items behind k c.requires.fresh (subst (λ z. PlacesStop k z.items behind) c.append_opening.ensures places)) c.append_body.ensures.marks

pub returns-clause-short : goal.returns-clause-short
returns-clause-short c =
    let opened = total-opened c.args.asm.now c.append_opening.new.asm c.args.k c.append_opening.ensures in
    OnOk-then c.append_body.result (λ short. omega (arith, short, opened)) c.append_body.ensures.short
