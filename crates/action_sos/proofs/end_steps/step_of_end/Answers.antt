use Rattle.std.proofs.Common.{refl, ap}
use Rattle.std.proofs.lemmas.Result.{IfOk-weaker}
use Rattle.action_sos.specs.Views.{frame_of}
use Rattle.action_sos.specs.Moves.{next_tree}
use Rattle.action_sos.proofs.EndedParts.{left_ended, right_ended, one_of_trees, among_trees, only_tree}
use Rattle.action_sos.proofs.end_steps.step_of_end.Goals as goal

pub returns-in-Called : goal.returns-in-Called
returns-in-Called c = only_tree c.args.graph.now c.args.frame c.args.end c.args.choice _ (ap frame_of c.in-Called.is) c.requires.open _ refl

pub returns-in-Cut : goal.returns-in-Cut
returns-in-Cut c = only_tree c.args.graph.now c.args.frame c.args.end c.args.choice _ (ap frame_of c.in-Cut.is) c.requires.open _ refl

pub returns-in-First : goal.returns-in-First
returns-in-First c = IfOk-weaker _ _ _ (λ r. only_tree c.args.graph.now c.args.frame c.args.end c.args.choice _ (ap frame_of c.in-First.is) c.requires.open (next_tree r)) c.after_first.ensures

pub returns-in-Second : goal.returns-in-Second
returns-in-Second c = IfOk-weaker _ _ _ (λ r. only_tree c.args.graph.now c.args.frame c.args.end c.args.choice _ (ap frame_of c.in-Second.is) c.requires.open (next_tree r)) c.after_second.ensures

pub returns-in-Or : goal.returns-in-Or
returns-in-Or c = only_tree c.args.graph.now c.args.frame c.args.end c.args.choice _ (ap frame_of c.in-Or.is) c.requires.open _ c.after_or.ensures

pub returns-in-Trap : goal.returns-in-Trap
returns-in-Trap c = only_tree c.args.graph.now c.args.frame c.args.end c.args.choice _ (ap frame_of c.in-Trap.is) c.requires.open _ c.after_trap.ensures

pub returns-in-Over : goal.returns-in-Over
returns-in-Over c = IfOk-weaker _ _ _ (λ r. only_tree c.args.graph.now c.args.frame c.args.end c.args.choice _ (ap frame_of c.in-Over.is) c.requires.open (next_tree r)) c.after_over.ensures

pub after_both-requires-clause-open : goal.after_both-requires-clause-open
after_both-requires-clause-open c = among_trees c.args.graph.now c.args.frame c.args.end c.args.choice _ (left_ended _ _ _ _ c.in-Beside.is c.in-Left.is) c.requires.open

pub after_both-requires-in-Right-clause-open : goal.after_both-requires-in-Right-clause-open
after_both-requires-in-Right-clause-open c = among_trees c.args.graph.now c.args.frame c.args.end c.args.choice _ (right_ended _ _ _ _ c.in-Beside.is c.in-Right.is) c.requires.open

pub returns-in-Left : goal.returns-in-Left
returns-in-Left c = IfOk-weaker _ _ _ (λ r. one_of_trees c.args.graph.now c.args.frame c.args.end c.args.choice _ (left_ended _ _ _ _ c.in-Beside.is c.in-Left.is) (next_tree r)) c.after_both.ensures

pub returns-in-Right : goal.returns-in-Right
returns-in-Right c = IfOk-weaker _ _ _ (λ r. one_of_trees c.args.graph.now c.args.frame c.args.end c.args.choice _ (right_ended _ _ _ _ c.in-Beside.is c.in-Right.is) (next_tree r)) c.after_both-in-Right.ensures
