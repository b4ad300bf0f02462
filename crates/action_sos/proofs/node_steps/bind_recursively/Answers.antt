use Rattle.std.proofs.Common.{ap, ◌∙◌, Some}
use Rattle.action_terms.specs.Steps.{bound}
use Rattle.action_sos.proofs.NodeMoves.{bind_recursively_move}
use Rattle.action_sos.proofs.node_steps.bind_recursively.Goals as goal

pub returns : goal.returns
returns c =
    bind_recursively_move c.args.running.now c.silent.result _ _ _
    (c.in_ok-binds.ensures ∙ ap (λ x. bound c.args.token.now (Some x)) c.own_closure-closure.ensures) c.silent.ensures
