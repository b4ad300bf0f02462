use Rattle.std.proofs.Common.{ℕ, ◌≤◌, take, Contains}
use Rattle.std.specs.Prelude.{◌↔◌}
use Rattle.chart_parse.specs.Rows.{Lists}
use Rattle.chart_parse.proofs.spans.listed.Given as goal

abbrev pub invariant-loop-k : goal.invariant-loop-k
invariant-loop-k l = (e : ℕ) → Contains l.numbers.items e ↔ ((e ≤ l.last) × Lists (take l.k l.list) l.nonterminal e)
