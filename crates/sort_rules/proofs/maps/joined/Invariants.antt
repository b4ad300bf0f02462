use Rattle.std.proofs.Common.{◌≡◌, drop, map}
use Rattle.sort_rules.specs.Parts.{joined_components}
use Rattle.sort_rules.specs.Views.{pair_of}
use Rattle.sort_rules.proofs.JoinedLists.{with_components}
use Rattle.sort_rules.proofs.maps.joined.Given as goal

-- what is joined so far stands before what is left to be joined
abbrev pub invariant-loop-i : goal.invariant-loop-i
invariant-loop-i l = with_components (map pair_of l.all.items) (joined_components (map pair_of (drop l.i l.xs)) (map pair_of (drop l.i l.ys))) ≡ joined_components (map pair_of l.xs) (map pair_of l.ys)
