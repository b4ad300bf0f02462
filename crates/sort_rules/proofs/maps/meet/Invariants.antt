use Rattle.std.proofs.Common.{◌≡◌, drop, map}
use Rattle.sort_rules.specs.Parts.{components_meet}
use Rattle.sort_rules.specs.Views.{pair_of}
use Rattle.sort_rules.proofs.maps.meet.Given as goal

-- the tokens that are left tell
abbrev pub invariant-loop-i : goal.invariant-loop-i
invariant-loop-i l = components_meet (map pair_of (drop l.i l.xs)) (map pair_of l.ys) ≡ components_meet (map pair_of l.xs) (map pair_of l.ys)
