use Rattle.std.proofs.Common.{ap, ◌∙◌, arith}
use Rattle.rv_codegen.proofs.DataItems.{moves-done, moves-next}
use Rattle.rv_codegen.proofs.data.append_moves.Goals as goal

pub loop-i-preserved : goal.loop-i-preserved
loop-i-preserved c =
    let xs = c.args.from.now in
    let os = c.args.to.now in
    let moved = c.in_ok-append_move.ensures in
    record {
      items = moves-next c.loop-i.asm c.append_move.new.asm xs os c.loop-i.i _ _ (omega (arith, c.loop-i-test.true, c.requires.enough)) c.loop-i-test.true moved ∙ c.loop-i.invariant.items;
      labels = ap (λ s. s.labels) moved ∙ c.loop-i.invariant.labels;
    }

pub returns : goal.returns
returns c = moves-done c.loop-i.asm c.args.asm.now c.args.from.now c.args.to.now c.loop-i.i (omega (arith, c.loop-i-test.false)) c.loop-i.invariant.items c.loop-i.invariant.labels
