use Rattle.std.proofs.Common.{◌≡◌, drop, map}
use Rattle.sort_rules.specs.Parts.{overlaid_components}
use Rattle.sort_rules.specs.Views.{pair_of}
use Rattle.sort_rules.proofs.maps.overlaid.Given as goal

-- the last ones are put already
abbrev pub invariant-loop-i : goal.invariant-loop-i
invariant-loop-i l = map pair_of l.list.items ≡ overlaid_components (map pair_of l.under) (map pair_of (drop l.i l.over))
