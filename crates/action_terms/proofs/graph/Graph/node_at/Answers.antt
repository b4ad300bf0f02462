use Rattle.action_terms.proofs.ReadGraphs.{read-node}
use Rattle.action_terms.proofs.graph.Graph.node_at.Goals as goal

pub returns-clause-read : goal.returns-clause-read
returns-clause-read c = read-node c.args.self.now c.nodes.ensures.of_an_action c.nodes.result.now c.args.number _ c.nodes.ensures.nodes c.requires
