use Rattle.std.proofs.Common.{◌≡◌}
use Rattle.chart_parse.proofs.rows.add.Given as goal

abbrev pub invariant-loop-k : goal.invariant-loop-k
invariant-loop-k l = l.list.items ≡ l.fn.list.items
