use Rattle.chart_parse.specs.Places.{grammar_of}
use Rattle.chart_parse.proofs.FirstLists.{AreFirst}
use Rattle.chart_parse.proofs.first.first_places.Given as goal

abbrev pub invariant-loop-i : goal.invariant-loop-i
invariant-loop-i l = AreFirst (grammar_of l.source) l.source.kinds.now l.i l.places.items
