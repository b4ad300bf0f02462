use Rattle.chart_parse.specs.Places.{grammar_of, IsAdded, MeetsEach}
use Rattle.chart_parse.proofs.rules.close.Given as goal

abbrev pub invariant-loop : goal.invariant-loop
invariant-loop l = record {
  added : IsAdded (grammar_of l.site.source.now) l.site.source.now.kinds.now l.site.place l.fn.places.items l.places.items;
  met : MeetsEach (grammar_of l.site.source.now) l.site.source.now.kinds.now l.places.items l.site.place l.lists.behind.items;
}
