use Rattle.std.proofs.Common.{◌≡◌, ◌∙◌, inl, inr, ◌+◌, ◌<◌, ◌++◌, ◌∷◌, [], List, ℕ, length, slice_get, Some, take, take_all, get_or, add-one, Contains, sym, subst, arith}
use Rattle.std.proofs.Math.Seq.{take-suc}
use Rattle.std.proofs.lemmas.Option.{slice_get-get_or}
use Rattle.std.proofs.lemmas.List.Elements.{Contains-push_cases}
use Rattle.tree_pick.specs.declared.corners.Beginning.{Beginning}
use Rattle.tree_pick.specs.Corners.{beginning, HasFirst}
use Rattle.tree_pick.proofs.FirstLists.{first_kept}
use Rattle.tree_pick.proofs.corners.firsts.Goals as goal

pub loop-p-preserved : goal.loop-p-preserved
loop-p-preserved c =
    let keys : List Beginning = c.args.pairs.now.keys in
    let p : ℕ = c.loop-p.p in
    let y : Beginning = get_or keys p (beginning 0 0) in
    let lt : p < length keys = omega (arith, c.loop-p-test.true, c.len-p-end.ensures.len) in
    let next : take (p + 1) keys ≡ take p keys ++ y ∷ [] = rw (add-one p) (take-suc keys p (beginning 0 0) lt) in
    let more = c.in_ok-add_pair_at.ensures in
    record {
      lists = more.lists;
      own = λ n below. more.more n n (c.loop-p.invariant.own n below);
      firsts = λ x h. elim (Contains-push_cases (take p keys) y x (subst (λ (l : List Beginning). Contains l x) next h)) [
        | inl o ↦ first_kept c.args.count c.loop-p.lists.items c.add_pair_at.new.lists.items x more.more (c.loop-p.invariant.firsts x o)
        | inr s ↦ subst (λ (z : Beginning). HasFirst c.args.count c.add_pair_at.new.lists.items z) s (more.first y (slice_get-get_or keys p (beginning 0 0) lt))
      ];
    }

pub returns : goal.returns
returns c =
    let keys : List Beginning = c.args.pairs.now.keys in
    record {
      lists = c.loop-p.invariant.lists;
      own = c.loop-p.invariant.own;
      firsts = λ x h. c.loop-p.invariant.firsts x (subst (λ (l : List Beginning). Contains l x) (sym (take_all c.loop-p.p keys (omega (arith, c.loop-p-test.false, c.len-p-end.ensures.len)))) h);
    }
