use Rattle.std.proofs.Common.{take}
use Rattle.chart_parse.specs.Rows.{Lists}
use Rattle.chart_parse.proofs.spans.is_listed.Given as goal

abbrev pub invariant-loop-entry : goal.invariant-loop-entry
invariant-loop-entry l = Lists (take l.entry-index l.list) l.nonterminal l.e → ⊥
