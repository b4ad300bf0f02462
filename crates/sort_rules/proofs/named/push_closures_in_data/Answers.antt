use Rattle.std.proofs.Common.{arith, length, ◌<◌, ◌≤◌}
use Rattle.sort_rules.proofs.ItemsJudged.{closures-more}
use Rattle.sort_rules.proofs.named.push_closures_in_data.Goals as goal

pub loop-i-preserved : goal.loop-i-preserved
loop-i-preserved c =
    let some : 0 < c.loop-i.i = omega (arith, c.loop-i-test.true) in
    let within : c.loop-i.i ≤ length c.args.numbers.now = omega (arith, c.loop-i.auto.i) in
    closures-more c.args.graph.now.yielders c.args.numbers.now c.loop-i.i 0 some within c.args.bodies.now.items c.loop-i.bodies.items c.push_closures_in_item.new.bodies.items
    c.loop-i.invariant c.in_ok-push_closures_in_item.ensures
