use Rattle.std.proofs.Common.{◌≡◌, ◌∙◌, ◌-◌, ap, sym, length, take, drop, arith}
use Rattle.std.proofs.lemmas.List.{take_rest, length-drop}
use Rattle.action_values.proofs.Laying.{rest-ascending, meets-more, meets-at}
use Rattle.action_values.proofs.bindings.meet_ascending.Goals as goal

pub returns-in-Ok : goal.returns-in-Ok
returns-in-Ok c =
    sym (sym c.loop-binding.invariant.so_far
    ∙ meets-at c.args.first.now c.args.second.now _ c.loop-binding.binding-index c.loop-binding.next _ c.loop-binding-test.true (take_rest c.args.second.now c.loop-binding.next) c.in-Ok.ensures.found)

pub loop-binding-preserved : goal.loop-binding-preserved
loop-binding-preserved c =
    let left : take (length c.args.second.now - c.loop-binding.next) (drop c.loop-binding.next c.args.second.now) ≡ drop c.loop-binding.next c.args.second.now = take_rest c.args.second.now c.loop-binding.next in
    record {
      within = omega (arith, c.in-Err.ensures.in_range, ap length left, length-drop c.loop-binding.next c.args.second.now);
      so_far =
          meets-more c.args.first.now c.args.second.now _ c.loop-binding.binding-index c.loop-binding.next c.in-Err.i _ c.loop-binding-test.true c.loop-binding.invariant.ascending left c.in-Err.ensures.lacks
          ∙ c.loop-binding.invariant.so_far;
      ascending = rest-ascending c.args.first.now c.loop-binding.binding-index c.loop-binding.invariant.ascending;
    }
