use Rattle.action_sos.proofs.NodeMoves.{branch_move}
use Rattle.action_sos.proofs.node_steps.branch.Goals as goal

pub returns : goal.returns
returns c = branch_move c.args.running.now c.silent.result _ _ _ _ _ c.in_ok-datum.ensures c.branches.ensures c.silent.ensures
