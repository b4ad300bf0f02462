use Rattle.std.proofs.Common.{◌≡◌, drop, map}
use Rattle.sort_rules.specs.Tests.{are_below}
use Rattle.sort_rules.specs.Views.{place_of}
use Rattle.sort_rules.proofs.tuples.are_below.Given as goal

-- what is left tells
abbrev pub invariant-loop-i : goal.invariant-loop-i
invariant-loop-i l = are_below (map place_of (drop l.i l.xs)) (map place_of (drop l.i l.ys)) ≡ are_below (map place_of l.xs) (map place_of l.ys)
