use Rattle.std.proofs.Common.{◌≡◌, drop, map}
use Rattle.sort_rules.specs.Parts.{lookup_set}
use Rattle.sort_rules.specs.Views.{pair_of}
use Rattle.sort_rules.proofs.maps.lookup.Given as goal

-- the token is sought in what is left
abbrev pub invariant-loop-i : goal.invariant-loop-i
invariant-loop-i l = lookup_set l.token (map pair_of (drop l.i l.pairs)) ≡ lookup_set l.token (map pair_of l.pairs)
