-- What one more write took stands behind what the writes so far took.
use Rattle.std.proofs.Common.{◌∙◌, arith, length-drop}
use Rattle.acg_base.proofs.TransferLemmas.{handed-more}
use Rattle.acg_base.proofs.transfer.hand_on.Goals as goal

pub loop-done-preserved : goal.loop-done-preserved
loop-done-preserved g c =
    let kept = c.loop-done.invariant in
    record {
      within = omega (arith, kept.within, c.in_ok-done.ensures.bound, length-drop c.loop-done.done c.args.bytes.now);
      handed = handed-more _ _ _ c.args.bytes.now c.loop-done.done c.in_ok-done.field-0 kept.handed c.in_ok-done.ensures.bytes;
      passed = c.in_ok-done.ensures.passed ∙ kept.passed;
      target = c.take.ensures.target_still ∙ kept.target;
    }
