use Rattle.std.proofs.Common.{ℕ, ◌*◌, ◌<◌, Contains}
use Rattle.std.specs.Prelude.{◌↔◌}
use Rattle.chart_parse.specs.Rows.{IsExtra}
use Rattle.chart_parse.proofs.numbers.difference.Given as goal

abbrev pub invariant-loop-k : goal.invariant-loop-k
invariant-loop-k l = (x : ℕ) → Contains l.list.items x ↔ ((x < 64 * l.k) × IsExtra l.below l.row l.other x)
