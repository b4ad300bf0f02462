use Rattle.action_terms.proofs.ReadGraphs.{read-yielder}
use Rattle.action_terms.proofs.graph.Graph.yielder_at.Goals as goal

pub returns : goal.returns
returns c = read-yielder c.args.self.now c.yielders.ensures.of_an_action c.yielders.result.now c.args.number _ c.yielders.ensures.yielders c.requires
