use Rattle.std.proofs.Common.{ap}
use Rattle.action_terms.specs.Forms.{node_viewed}
use Rattle.action_sos.proofs.NodeMoves.{second_arm_move}
use Rattle.action_sos.proofs.node_steps.second_arm.Goals as goal

pub returns : goal.returns
returns c =
    second_arm_move c.args.running.now c.silent.result _ _ _ _ (ap (node_viewed c.args.running.now.graph.now.yielders) c.in-Either.is) c.chooses.ensures c.silent.ensures
