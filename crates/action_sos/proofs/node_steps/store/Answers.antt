use Rattle.action_sos.proofs.NodeMoves.{store_move}
use Rattle.action_sos.proofs.node_steps.store.Goals as goal

pub returns : goal.returns
returns c = store_move c.args.running.now c.stores.result _ _ _ _ c.in_ok-stored.ensures c.in_ok-place.ensures c.stores.ensures
