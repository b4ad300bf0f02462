use Rattle.std.proofs.Common.{arith, length}
use Rattle.chart_parse.proofs.Bits.{joined}
use Rattle.chart_parse.proofs.rows.has_more.Goals as goal

pub returns : goal.returns
returns c = λ q e within. joined c.args.row.now c.args.other.now c.args.row.now (length c.args.row.now) (λ j h. c.loop-k.invariant q j (omega (arith, c.loop-k-test.false))) e within
