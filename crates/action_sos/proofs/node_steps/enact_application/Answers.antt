use Rattle.action_sos.proofs.NodeMoves.{enact_application_move}
use Rattle.action_sos.proofs.node_steps.enact_application.Goals as goal

pub returns : goal.returns
returns c = enact_application_move c.args.running.now c.silent.result _ _ _ _ _ c.in_ok-closure.ensures c.in_ok-given.ensures c.in_ok-enacts.ensures c.silent.ensures
