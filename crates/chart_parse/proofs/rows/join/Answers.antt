use Rattle.std.proofs.Common.{arith, length}
use Rattle.chart_parse.proofs.Bits.{joined}
use Rattle.chart_parse.proofs.rows.join.Goals as goal

pub returns-clause-joined : goal.returns-clause-joined
returns-clause-joined c e within =
    joined c.args.into.now c.args.from.now c.loop-k.into (length c.args.into.now) (λ j h. c.loop-k.invariant.1 j (omega (arith, c.loop-k-test.false, c.loop-k.invariant.0))) e within
