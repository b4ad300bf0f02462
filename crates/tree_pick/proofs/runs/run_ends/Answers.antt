use Rattle.std.proofs.lemmas.Result.{IfOk-weaker}
use Rattle.tree_pick.proofs.FollowedParts.{whole_run}
use Rattle.tree_pick.proofs.runs.run_ends.Goals as goal

pub returns-clause-ends : goal.returns-clause-ends
returns-clause-ends c =
    IfOk-weaker c.run_front.result _ _ (λ r all e. whole_run c.args.parse.now.grammar c.args.parse.now.kinds c.args.parts.now c.args.start e r.items (all e)) c.run_front.ensures.places
