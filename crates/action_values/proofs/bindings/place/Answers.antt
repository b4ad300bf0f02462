use Rattle.std.proofs.Common.{sym, subst, arith}
use Rattle.action_values.proofs.Putting.{IsPassed, put_before, put_at, lacks, found_at, passed_more, passed_none, put_last, lacks_last}
use Rattle.action_values.proofs.bindings.place.Goals as goal

pub returns-in-Less-clause-put_at : goal.returns-in-Less-clause-put_at
returns-in-Less-clause-put_at c = put_before c.args.bound.now c.args.token.now c.loop-i.i _ c.loop-i-test.true c.loop-i.invariant (sym c.in-Less.ensures)

pub returns-in-Equal-clause-bound_at : goal.returns-in-Equal-clause-bound_at
returns-in-Equal-clause-bound_at c = put_at c.args.bound.now c.args.token.now c.loop-i.i _ c.loop-i-test.true c.loop-i.invariant (sym c.in-Equal.ensures)

pub loop-i-init : goal.loop-i-init
loop-i-init c = passed_none c.args.bound.now c.args.token.now

pub loop-i-preserved : goal.loop-i-preserved
loop-i-preserved c = passed_more c.args.bound.now c.args.token.now c.loop-i.i _ c.loop-i-test.true c.loop-i.invariant (sym c.in-Greater.ensures)

pub returns-clause-put_at : goal.returns-clause-put_at
returns-clause-put_at c = put_last c.args.bound.now c.args.token.now (subst (IsPassed c.args.bound.now c.args.token.now) (omega arith) c.loop-i.invariant)

pub returns-in-Less-clause-lacks : goal.returns-in-Less-clause-lacks
returns-in-Less-clause-lacks c = lacks c.args.bound.now c.args.token.now c.loop-i.i _ c.loop-i-test.true c.loop-i.invariant (sym c.in-Less.ensures)

pub returns-in-Equal-clause-found : goal.returns-in-Equal-clause-found
returns-in-Equal-clause-found c = found_at c.args.bound.now c.args.token.now c.loop-i.i _ c.loop-i-test.true c.loop-i.invariant (sym c.in-Equal.ensures)

pub returns-clause-lacks : goal.returns-clause-lacks
returns-clause-lacks c = lacks_last c.args.bound.now c.args.token.now (subst (IsPassed c.args.bound.now c.args.token.now) (omega arith) c.loop-i.invariant)
