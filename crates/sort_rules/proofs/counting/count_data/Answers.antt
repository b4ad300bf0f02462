use Rattle.std.proofs.Common.{◌<◌, ◌≤◌, ◌-◌, arith, length}
use Rattle.sort_rules.proofs.YielderCounts.{data-fewer, data-more}
use Rattle.sort_rules.proofs.counting.count_data.Goals as goal

pub overflow_add-count : goal.overflow_add-count
overflow_add-count c =
    let ls = c.args.graph.now.yielders in
    let numbers = c.args.numbers.now in
    let i = c.loop-i.i in
    let some : 0 < i = omega (arith, c.loop-i-test.true) in
    let within : i ≤ length numbers = omega (arith, c.loop-i.auto.i) in
    omega (arith, c.loop-i.invariant, c.in_ok-count.ensures, data-more ls numbers i 0 some within, data-fewer ls numbers (i - 1), c.requires.few)
