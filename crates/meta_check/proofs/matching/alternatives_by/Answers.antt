use Rattle.meta_check.proofs.DeclaredItems.{found_more}
use Rattle.meta_check.proofs.matching.alternatives_by.Goals as goal

pub loop-equation-preserved : goal.loop-equation-preserved
loop-equation-preserved c =
    found_more _ c.args.equations.now c.loop-equation.equation-index _ c.equation-item.result c.loop-equation.list.items c.push.new.self.items c.in_ok-alternative_of.field-0 c.loop-equation-test.true c.loop-equation.invariant
    c.in_ok-alternative_of.ensures c.equation-item.is c.in_ok-push.ensures.items
