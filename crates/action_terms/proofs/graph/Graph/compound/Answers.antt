use Rattle.action_terms.proofs.ReadGraphs.{compound_kind}
use Rattle.action_terms.proofs.graph.Graph.compound.Goals as goal

pub unreachable-requires : goal.unreachable-requires
unreachable-requires c =
    let n = c.in_default in
    compound_kind c.node_at-node.result.kind (c.requires.compound _ c.node_at-node.ensures.listed) n.not-Enact n.not-Apply n.not-Unfold n.not-Unfolding n.not-Furthermore n.not-Or n.not-And n.not-AndThen n.not-Then n.not-Trap n.not-Hence n.not-Moreover n.not-Before n.not-Branch
