use Rattle.action_sos.proofs.NodeMoves.{escape_with_move}
use Rattle.action_sos.proofs.node_steps.escape_with.Goals as goal

pub returns : goal.returns
returns c = escape_with_move c.args.running.now c.silent.result _ _ _ c.in_ok-yielded_items.ensures c.escapes_with.ensures c.silent.ensures
