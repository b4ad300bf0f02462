use Rattle.action_sos.proofs.NodeMoves.{bind_move}
use Rattle.action_sos.proofs.node_steps.bind.Goals as goal

pub returns : goal.returns
returns c = bind_move c.args.running.now c.silent.result _ _ _ _ c.in_ok-datum.ensures c.in_ok-binds.ensures c.silent.ensures
