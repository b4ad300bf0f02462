use Rattle.frame_layout.proofs.Grouping.{AreEmpty, AreMembersBelow}
use Rattle.frame_layout.proofs.roots.members.Given as goal

-- the groups are empty
abbrev pub invariant-loop : goal.invariant-loop
invariant-loop l = AreEmpty l.counter l.groups.items

-- the groups of the nodes so far
abbrev pub invariant-loop-node : goal.invariant-loop-node
invariant-loop-node l = AreMembersBelow l.roots l.node l.groups.items
