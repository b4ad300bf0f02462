-- The list has the arguments so far, without the first.
use Rattle.std.proofs.Common.{◌≡◌}
use Rattle.acg.proofs.without_first.Given as goal

abbrev pub invariant-loop-argument : goal.invariant-loop-argument
invariant-loop-argument l = l.list.items ≡ l.yielded
