use Rattle.std.proofs.Common.{◌≡◌, ◌∙◌, ◌+◌, ◌++◌, ◌∷◌, [], List, ℕ, sym, ap, subst, arith, Vec, Global}
use Rattle.tree_pick.specs.Corners.{AreLists, HaveOwn}
use Rattle.tree_pick.proofs.FirstLists.{no_lists, next_lists, next_own}
use Rattle.tree_pick.proofs.corners.own_lists.Goals as goal

pub loop-n-init : goal.loop-n-init
loop-n-init c = record {
  lists = subst (AreLists 0) (sym c.in_ok-lists.ensures.items) no_lists;
  own = λ n lt. absurd (omega arith);
}

pub loop-n-preserved : goal.loop-n-preserved
loop-n-preserved c =
    let n : ℕ = c.loop-n.n in
    let v : Vec ℕ Global = c.push.new.self in
    let is : v.items ≡ n ∷ [] = c.in_ok-push.ensures.items ∙ ap (λ (l : List ℕ). l ++ n ∷ []) c.new-list.ensures.items in
    record {
      lists = subst (AreLists (n + 1)) (sym c.in_ok-push-2.ensures.items) (next_lists n c.loop-n.lists.items v c.loop-n.invariant.lists is);
      own = subst (HaveOwn (n + 1)) (sym c.in_ok-push-2.ensures.items) (next_own n c.loop-n.lists.items v c.loop-n.invariant.lists c.loop-n.invariant.own is);
    }

pub returns-clause-lists : goal.returns-clause-lists
returns-clause-lists c =
    let all : c.loop-n.n ≡ c.args.count = omega (arith, c.loop-n-test.false, c.loop-n.auto.n-end) in
    subst (λ (n : ℕ). AreLists n c.loop-n.lists.items) all c.loop-n.invariant.lists
