use Rattle.std.proofs.Common.{◌≡◌, ◌++◌, length}
use Rattle.action_terms.specs.Performances.{records}
use Rattle.acg_driver.proofs.messages.integers.Given as goal

-- the integers so far and those of the rest are all
abbrev pub invariant-loop-integer : goal.invariant-loop-integer
invariant-loop-integer l = l.list.items ++ records l.rest ≡ records l.fn.bytes

abbrev pub decreases-loop-integer : goal.decreases-loop-integer
decreases-loop-integer l = length l.rest
