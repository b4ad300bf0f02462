use Rattle.action_values.proofs.Laying.{put-more}
use Rattle.action_values.proofs.bindings.put_all.Goals as goal

pub loop-i-preserved : goal.loop-i-preserved
loop-i-preserved c = put-more c.args.list.now.items c.args.over.now c.loop-i.i _ _ _ c.requires c.loop-i-test.true c.loop-i.auto.i c.loop-i.invariant c.in_ok-put.ensures
