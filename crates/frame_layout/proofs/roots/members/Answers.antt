use Rattle.std.proofs.Common.{arith}
use Rattle.frame_layout.proofs.Grouping.{members-more}
use Rattle.frame_layout.proofs.roots.members.Goals as goal

pub loop-node-preserved : goal.loop-node-preserved
loop-node-preserved c =
    members-more c.args.roots.now c.loop-node.node c.loop-node.groups.items c.index_mut.result.now c.push-in-loop-node.new.self (c.requires.within c.loop-node.node (omega (arith, c.loop-node-test.true)))
    c.index_mut.ensures.value c.in_ok-push-2.ensures.items c.loop-node.invariant
