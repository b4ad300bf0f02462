use Rattle.chart_parse.specs.Places.{width_of}
use Rattle.chart_parse.proofs.NearRows.{AreEmpty}
use Rattle.chart_parse.proofs.near.no_near.Given as goal

abbrev pub invariant-loop : goal.invariant-loop
invariant-loop l = AreEmpty (width_of l.source.kinds.now) l.counter l.near.items
