use Rattle.std.proofs.Common.{arith, ◌-◌}
use Rattle.sort_rules.proofs.Misfits.{nth-past, nth-there}
use Rattle.sort_rules.proofs.values.nth_set.Goals as goal

pub returns-then-index-sets : goal.returns-then-index-sets
returns-then-index-sets c = nth-there c.args.sets.now c.args.place (c.args.place - 1) c.index-sets-index.result (omega (arith, c.if-place-eq0.false)) c.if-index-sets.true c.index-sets-index.is

pub returns-else-index-sets : goal.returns-else-index-sets
returns-else-index-sets c = nth-past c.args.sets.now c.args.place (c.args.place - 1) (omega (arith, c.if-place-eq0.false)) c.if-index-sets.false
