use Rattle.std.proofs.Common.{◌∙◌}
use Rattle.action_sos.proofs.NodeSteps.{counted_there}
use Rattle.action_sos.proofs.node_steps.count_of_node.Goals as goal

pub returns : goal.returns
returns c = λ r w. c.count_of_view.ensures ∙ counted_there c.args.graph.now c.args.node c.view.result c.view.ensures r w
