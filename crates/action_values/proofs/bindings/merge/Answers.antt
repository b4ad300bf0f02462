use Rattle.std.proofs.Common.{◌≡◌, ◌≤◌, ◌-◌, ap, length, take, drop, arith}
use Rattle.std.proofs.lemmas.List.{take_rest, length-drop}
use Rattle.std.proofs.lemmas.Grind.{common_steps}
use Rattle.action_values.proofs.Laying.{rest-ascending, laid_more, laid_all}
use Rattle.action_values.proofs.bindings.merge.Goals as goal

pub loop-binding-preserved : goal.loop-binding-preserved
loop-binding-preserved c =
    let left : take (length c.args.under.now - c.loop-binding.next) (drop c.loop-binding.next c.args.under.now) ≡ drop c.loop-binding.next c.args.under.now = take_rest c.args.under.now c.loop-binding.next in
    record {
      within = omega (arith, c.gap-end.ensures.behind, ap length left, length-drop c.loop-binding.next c.args.under.now);
      so_far =
          laid_more c.loop-binding.list.items c.extend_from_slice.new.self.items c.push.new.self.items c.args.under.now _ c.args.over.now c.loop-binding.next c.loop-binding.binding-index
          c.gap-end.result.0 c.gap-end.result.1 _ _ c.loop-binding-test.true c.loop-binding.invariant.ascending left c.gap-end.ensures.puts (grind (arith, common_steps)) c.in_ok-push.ensures.items
          c.loop-binding.invariant.so_far;
      ascending = rest-ascending c.args.over.now c.loop-binding.binding-index c.loop-binding.invariant.ascending;
    }

pub returns : goal.returns
returns c =
    let left : take (length c.args.under.now - c.loop-binding.next) (drop c.loop-binding.next c.args.under.now) ≡ drop c.loop-binding.next c.args.under.now = take_rest c.args.under.now c.loop-binding.next in
    let past : length c.args.over.now ≤ c.loop-binding.binding-index = omega arith in
    laid_all c.loop-binding.list.items c.extend_from_slice-2.new.self.items c.args.under.now (take (length c.args.under.now - c.loop-binding.next) (drop c.loop-binding.next c.args.under.now))
    c.args.over.now c.loop-binding.next c.loop-binding.binding-index _ past left (grind (arith, common_steps)) c.loop-binding.invariant.so_far
