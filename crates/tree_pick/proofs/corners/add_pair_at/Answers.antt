use Rattle.std.proofs.Common.{◌≡◌, ◌∙◌, Some, subst}
use Rattle.std.proofs.lemmas.Result.{on_ok_weaker}
use Rattle.tree_pick.specs.declared.corners.Beginning.{Beginning}
use Rattle.tree_pick.specs.Corners.{HasFirst}
use Rattle.tree_pick.proofs.FirstLists.{first_own}
use Rattle.tree_pick.proofs.corners.add_pair_at.Goals as goal

same_pair : (x y : Beginning) → Some x ≡ Some y → x ≡ y
same_pair x y e = cc

pub returns-then-pair-clause-first : goal.returns-then-pair-clause-first
returns-then-pair-clause-first c x e =
    subst (λ (y : Beginning). HasFirst c.args.count c.args.lists.now.items y) (same_pair c.in-Some.pair.now x (c.in-Some.ensures.key ∙ e))
    (first_own c.args.count c.args.lists.now.items c.in-Some.pair.now c.requires.own c.if-pair.true)

pub returns-clause-first : goal.returns-clause-first
returns-clause-first c =
    on_ok_weaker c.add_pair.result
    (λ h x e. subst (λ (y : Beginning). HasFirst c.args.count c.add_pair.new.lists.items y) (same_pair c.in-Some.pair.now x (c.in-Some.ensures.key ∙ e)) h)
    c.add_pair.ensures.first
