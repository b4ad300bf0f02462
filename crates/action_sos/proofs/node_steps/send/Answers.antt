use Rattle.action_sos.proofs.NodeMoves.{send_move}
use Rattle.action_sos.proofs.node_steps.send.Goals as goal

pub returns : goal.returns
returns c = send_move c.args.running.now c.sends.result _ _ c.in_ok-yielded.ensures c.sends.ensures
