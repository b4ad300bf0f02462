use Rattle.std.proofs.Common.{refl, ap}
use Rattle.action_terms.specs.Forms.{node_viewed}
use Rattle.action_sos.proofs.NodeMoves.{move_as, simple_moves, only_move, first_arm_move}
use Rattle.action_sos.proofs.node_steps.first_step.Goals as goal

pub returns-in-Simple : goal.returns-in-Simple
returns-in-Simple c =
    let ls = c.args.running.now.graph.now.yielders in
    move_as c.primitive_step.result c.args.running.now _ _ (ap (node_viewed ls) c.in-Simple.is)
    (simple_moves c.primitive_step.result c.args.running.now _ c.primitive_step.ensures)

pub returns-in-Unfolding : goal.returns-in-Unfolding
returns-in-Unfolding c =
    only_move c.args.running.now c.silent.result _ _ _ _ (ap (node_viewed c.args.running.now.graph.now.yielders) c.in-Unfolding.is) (λ w. refl) c.calls.ensures c.silent.ensures

pub returns-in-Unfold : goal.returns-in-Unfold
returns-in-Unfold c =
    only_move c.args.running.now c.silent-in-Unfold.result _ _ _ _ (ap (node_viewed c.args.running.now.graph.now.yielders) c.in-Unfold.is) (λ w. refl) c.calls-in-Unfold.ensures c.silent-in-Unfold.ensures

pub returns-in-Furthermore : goal.returns-in-Furthermore
returns-in-Furthermore c =
    only_move c.args.running.now c.silent-in-Furthermore.result _ _ _ _ (ap (node_viewed c.args.running.now.graph.now.yielders) c.in-Furthermore.is) (λ w. refl) c.lays_over.ensures
    c.silent-in-Furthermore.ensures

pub returns-in-Both : goal.returns-in-Both
returns-in-Both c =
    only_move c.args.running.now c.silent-in-Both.result _ _ _ _ (ap (node_viewed c.args.running.now.graph.now.yielders) c.in-Both.is) (λ w. refl) c.forks.ensures c.silent-in-Both.ensures

pub returns-in-Phases : goal.returns-in-Phases
returns-in-Phases c =
    only_move c.args.running.now c.silent-in-Phases.result _ _ _ _ (ap (node_viewed c.args.running.now.graph.now.yielders) c.in-Phases.is) (λ w. refl) c.begins.ensures c.silent-in-Phases.ensures

pub returns-in-Either : goal.returns-in-Either
returns-in-Either c =
    first_arm_move c.args.running.now c.silent-in-Either.result _ _ _ _ (ap (node_viewed c.args.running.now.graph.now.yielders) c.in-Either.is) c.chooses.ensures c.silent-in-Either.ensures

pub returns-in-Trapping : goal.returns-in-Trapping
returns-in-Trapping c =
    only_move c.args.running.now c.silent-in-Trapping.result _ _ _ _ (ap (node_viewed c.args.running.now.graph.now.yielders) c.in-Trapping.is) (λ w. refl) c.traps.ensures
    c.silent-in-Trapping.ensures
