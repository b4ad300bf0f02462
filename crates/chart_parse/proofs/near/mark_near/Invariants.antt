use Rattle.chart_parse.specs.Places.{grammar_of, AreNear}
use Rattle.chart_parse.proofs.near.mark_near.Given as goal

abbrev pub invariant-loop-m : goal.invariant-loop-m
invariant-loop-m l = AreNear (grammar_of l.source) l.source.kinds.now l.places l.place l.near.items
