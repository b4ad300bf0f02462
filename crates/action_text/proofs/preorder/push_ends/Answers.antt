use Rattle.std.proofs.Common.{◌∙◌, ap, sym, arith, ◌-◌, ◌+◌, ◌++◌, [], ◌∷◌, append_assoc}
use Rattle.action_text.specs.Sizes.{tree_ends}
use Rattle.action_text.proofs.PreorderWalk.{ends_one}
use Rattle.action_text.proofs.preorder.push_ends.Goals as goal

pub loop-preserved : goal.loop-preserved
loop-preserved c = record {
  before = omega (arith, c.step_back-last.ensures.before, c.loop.invariant.before);
  left =
      c.loop.invariant.left
      ∙ ap (λ y. c.loop.stack.items ++ y) (ends_one c.args.sizes.now c.args.count c.loop.counter c.loop.last c.loop-test.true)
      ∙ ap (λ e. c.loop.stack.items ++ (c.loop.last ∷ tree_ends c.args.sizes.now (c.args.count - (c.loop.counter + 1)) e)) (sym c.step_back-last.ensures.value)
      ∙ sym (append_assoc c.loop.stack.items (c.loop.last ∷ []) (tree_ends c.args.sizes.now (c.args.count - (c.loop.counter + 1)) c.step_back-last.result))
      ∙ ap (λ y. y ++ tree_ends c.args.sizes.now (c.args.count - (c.loop.counter + 1)) c.step_back-last.result) (sym c.in_ok-push.ensures.items);
}
