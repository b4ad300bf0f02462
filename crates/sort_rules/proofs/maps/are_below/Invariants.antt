use Rattle.std.proofs.Common.{◌≡◌, drop, map}
use Rattle.sort_rules.specs.Tests.{are_below}
use Rattle.sort_rules.specs.Views.{pair_of}
use Rattle.sort_rules.proofs.maps.are_below.Given as goal

-- what is left tells
abbrev pub invariant-loop-i : goal.invariant-loop-i
invariant-loop-i l = are_below (map pair_of (drop l.i l.xs)) (map pair_of (drop l.i l.ys)) ≡ are_below (map pair_of l.xs) (map pair_of l.ys)
