use Rattle.std.proofs.Common.{length, ap, arith}
use Rattle.chart_parse.specs.Charts.{PlainChart}
use Rattle.chart_parse.proofs.spans.Chart.count.Goals as goal

pub overflow_cast-result : goal.overflow_cast-result
overflow_cast-result c = omega (arith, c.self.invariant.small)

pub returns : goal.returns
returns c = ap (λ (p : PlainChart). length p.kinds) c.self.view_is
