use Rattle.std.proofs.Common.{◌≡◌, ℕ, false, take, Contains}
use Rattle.chart_parse.specs.Places.{grammar_of, IsListed, IsSame, IsAdded}
use Rattle.chart_parse.proofs.rules.add_growths.Given as goal

abbrev pub invariant-loop-q : goal.invariant-loop-q
invariant-loop-q l = record {
  added : IsAdded (grammar_of l.site.source.now) l.site.source.now.kinds.now l.site.place l.fn.places.items l.places.items;
  same : l.more ≡ false → IsSame l.fn.places.items l.places.items;
  has : (j n e : ℕ) → Contains (take l.q l.ends) j
      → IsListed l.site.source.now.kinds.now l.fn.places.items j l.nonterminal n e
      → IsListed l.site.source.now.kinds.now l.places.items l.site.place l.into n e;
}
