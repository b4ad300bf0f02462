use Rattle.std.proofs.Common.{◌⊎◌, ℕ, ◌*◌, ◌<◌, Contains}
use Rattle.std.specs.Prelude.{◌↔◌}
use Rattle.chart_parse.specs.Rows.{Has}
use Rattle.chart_parse.proofs.numbers.add_numbers.Given as goal

abbrev pub invariant-loop-k : goal.invariant-loop-k
invariant-loop-k l = (e : ℕ) → Contains l.list.items e ↔ (Contains l.fn.list.items e ⊎ ((e < 64 * l.k) × ((e < l.below) × Has l.row e)))
