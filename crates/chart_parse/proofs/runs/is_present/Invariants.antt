use Rattle.std.proofs.Common.{ℕ, take}
use Rattle.chart_parse.specs.Rows.{Lists}
use Rattle.chart_parse.proofs.runs.is_present.Given as goal

abbrev pub invariant-loop-entry : goal.invariant-loop-entry
invariant-loop-entry l = (e : ℕ) → Lists (take l.entry-index l.list) l.nonterminal e → ⊥
