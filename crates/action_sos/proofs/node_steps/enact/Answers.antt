use Rattle.action_sos.proofs.NodeMoves.{enact_move}
use Rattle.action_sos.proofs.node_steps.enact.Goals as goal

pub returns : goal.returns
returns c = enact_move c.args.running.now c.silent.result _ _ _ c.in_ok-closure.ensures c.in_ok-enacts.ensures c.silent.ensures
