use Rattle.std.proofs.Common.{ℕ}
use Rattle.chart_parse.proofs.Collected.{Collects, IsLeft}
use Rattle.chart_parse.proofs.numbers.add_bits.Given as goal

abbrev pub invariant-loop : goal.invariant-loop
invariant-loop l = record {
  within : IsLeft l.word l.left;
  each : (e : ℕ) → Collects l.below l.word l.first l.fn.list.items l.list.items l.left e;
}
