use Rattle.std.proofs.Common.{◌⊎◌, ◌<◌, ℕ, Contains}
use Rattle.chart_parse.specs.declared.rule_lists.Rule.{Rule}
use Rattle.chart_parse.specs.Places.{grammar_of, IsOfClass, HasClassOf}
use Rattle.chart_parse.proofs.rule_lists.add_rules.Given as goal

abbrev pub invariant-loop-nonterminal : goal.invariant-loop-nonterminal
invariant-loop-nonterminal l = record {
  longer : (x : Rule) → Contains l.fn.list.items x → Contains l.list.items x;
  rules : (x : Rule) → Contains l.list.items x → Contains l.fn.list.items x ⊎ IsOfClass (grammar_of l.source) l.class x;
  has : (m : ℕ) → m < l.nonterminal → HasClassOf (grammar_of l.source) l.class l.list.items m;
}
