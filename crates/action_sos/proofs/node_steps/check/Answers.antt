use Rattle.action_sos.proofs.NodeMoves.{check_move}
use Rattle.action_sos.proofs.node_steps.check.Goals as goal

pub returns : goal.returns
returns c = check_move c.args.running.now c.silent.result _ _ _ c.in_ok-yielded.ensures c.checks.ensures c.silent.ensures
