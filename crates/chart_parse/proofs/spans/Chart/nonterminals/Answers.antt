use Rattle.std.proofs.Common.{◌∙◌, length, ap, sym, arith}
use Rattle.std.proofs.lemmas.List.{length-map}
use Rattle.chart_parse.specs.Charts.{PlainChart}
use Rattle.source_lex.specs.Numbered.{plain_alternatives}
use Rattle.chart_parse.proofs.spans.Chart.nonterminals.Goals as goal

pub overflow_cast-result : goal.overflow_cast-result
overflow_cast-result c = omega (arith, c.self.invariant.few, length-map c.self.inside.source.nonterminals.now plain_alternatives)

pub returns : goal.returns
returns c = sym (length-map c.self.inside.source.nonterminals.now plain_alternatives) ∙ ap (λ (p : PlainChart). length p.grammar) c.self.view_is
