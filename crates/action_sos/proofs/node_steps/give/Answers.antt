use Rattle.action_sos.proofs.NodeMoves.{give_move}
use Rattle.action_sos.proofs.node_steps.give.Goals as goal

pub returns : goal.returns
returns c = give_move c.args.running.now c.silent.result _ _ _ c.in_ok-yielded_items.ensures c.gives.ensures c.silent.ensures
