use Rattle.std.proofs.Common.{◌≡◌, ◌⊎◌, false, take, Contains}
use Rattle.chart_parse.specs.declared.rule_lists.Rule.{Rule}
use Rattle.chart_parse.specs.declared.rule_lists.Class.TheVariants.{Behind}
use Rattle.chart_parse.specs.Places.{grammar_of, class_of, IsAdded, IsMet}
use Rattle.chart_parse.proofs.rules.follow_each.Given as goal

abbrev pub invariant-loop-k : goal.invariant-loop-k
invariant-loop-k l = record {
  added : IsAdded (grammar_of l.site.source.now) l.site.source.now.kinds.now l.site.place l.fn.places.items l.places.items;
  met : (x : Rule) → Contains (take l.k l.rules) x → (l.more ≡ false) ⊎ (class_of x.parts.now ≡ Behind)
      → IsMet (grammar_of l.site.source.now) l.site.source.now.kinds.now l.places.items l.site.place x.nonterminal x.parts.now;
}
