use Rattle.std.proofs.Common.{◌∙◌, ap, sym, arith, ◌-◌, ◌+◌}
use Rattle.action_text.specs.Sizes.{start_back}
use Rattle.action_text.proofs.PreorderWalk.{back_one}
use Rattle.action_text.proofs.preorder.start_back.Goals as goal

pub loop-preserved : goal.loop-preserved
loop-preserved c = record {
  before = omega (arith, c.step_back-start.ensures.before, c.loop.invariant.before);
  left =
      c.loop.invariant.left ∙ back_one c.args.sizes.now c.args.count c.loop.counter c.loop.start c.loop-test.true
      ∙ ap (start_back c.args.sizes.now (c.args.count - (c.loop.counter + 1))) (sym c.step_back-start.ensures.value);
}
