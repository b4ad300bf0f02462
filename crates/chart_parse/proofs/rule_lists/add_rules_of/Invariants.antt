use Rattle.std.proofs.Common.{◌≡◌, ◌⊎◌, ◌<◌, ℕ, Some, Contains}
use Rattle.source_lex.specs.Numbered.{Alternative, alternative_of}
use Rattle.chart_parse.specs.declared.rule_lists.Rule.{Rule}
use Rattle.chart_parse.specs.Places.{grammar_of, class_of, IsOfClass, HasRule}
use Rattle.chart_parse.proofs.rule_lists.add_rules_of.Given as goal

abbrev pub invariant-loop-a : goal.invariant-loop-a
invariant-loop-a l = record {
  longer : (x : Rule) → Contains l.fn.list.items x → Contains l.list.items x;
  rules : (x : Rule) → Contains l.list.items x → Contains l.fn.list.items x ⊎ IsOfClass (grammar_of l.source) l.class x;
  has : (b : ℕ) (parts : Alternative) → b < l.a → alternative_of (grammar_of l.source) l.nonterminal b ≡ Some parts → class_of parts ≡ l.class → HasRule l.list.items l.nonterminal parts;
}
