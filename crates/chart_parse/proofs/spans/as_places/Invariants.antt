use Rattle.std.proofs.Common.{◌≡◌, take}
use Rattle.chart_parse.proofs.spans.as_places.Given as goal

abbrev pub invariant-loop-k : goal.invariant-loop-k
invariant-loop-k l = l.places.items ≡ take l.k l.list
