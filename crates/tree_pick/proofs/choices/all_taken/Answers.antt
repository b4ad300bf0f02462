use Rattle.std.proofs.Common.{◌≡◌, inl, inr, ℕ, ◌+◌, ◌<◌, ◌++◌, ◌∷◌, [], List, length, take, take_all, get_or, add-one, Contains, sym, subst, arith}
use Rattle.std.proofs.Math.Seq.{take-suc}
use Rattle.std.proofs.lemmas.List.Elements.{Contains-get_or, Contains-append_left, Contains-push, Contains-push_cases}
use Rattle.tree_pick.specs.Choices.{CanTake}
use Rattle.tree_pick.proofs.FoundChoices.{take_within, not_in_nothing}
use Rattle.tree_pick.proofs.choices.all_taken.Goals as goal

pub loop-k-init : goal.loop-k-init
loop-k-init c x = (
  λ h. absurd (not_in_nothing c.new-found.result.items x c.new-found.ensures.items h),
  λ y. absurd (let lt = y.0.1 in omega arith),
)

pub add_production-requires-clause-production : goal.add_production-requires-clause-production
add_production-requires-clause-production c = c.firsts-firsts.ensures.below (get_or c.firsts-firsts.result.now c.loop-k.k 0) (Contains-get_or c.firsts-firsts.result.now c.loop-k.k 0 c.loop-k-test.true)

pub loop-k-preserved : goal.loop-k-preserved
loop-k-preserved c x =
    let list : List ℕ = c.firsts-firsts.result.now in
    let k : ℕ = c.loop-k.k in
    let m : ℕ = get_or list k 0 in
    let next : take (k + 1) list ≡ take k list ++ m ∷ [] = rw (add-one k) (take-suc list k 0 c.loop-k-test.true) in
    let before = c.loop-k.invariant x in
    let now = c.in_ok-add_production.ensures x in (
      λ there. elim (now.0 there) [
        | inl o ↦ let y = before.0 o in (subst (λ (l : List ℕ). Contains l x.production) (sym next) (Contains-append_left (take k list) (m ∷ []) x.production y.0), y.1)
        | inr y ↦ (subst (λ (l : List ℕ). Contains l x.production) (sym next) (subst (λ (n : ℕ). Contains (take k list ++ m ∷ []) n) (sym y.0) (Contains-push (take k list) m)), y.1)
      ],
      λ y. elim (Contains-push_cases (take k list) m x.production (subst (λ (l : List ℕ). Contains l x.production) next y.0)) [
        | inl o ↦ now.1 (inl (before.1 (o, y.1)))
        | inr s ↦ now.1 (inr (sym s, y.1))
      ],
    )

pub returns : goal.returns
returns c x =
    let list : List ℕ = c.firsts-firsts.result.now in
    let h = c.loop-k.invariant x in (
      λ there. (h.0 there).1,
      λ can.
          let lt : x.production < length c.args.parse.now.grammar = take_within c.args.parse.now.grammar c.args.parse.now.kinds c.args.corner c.args.into.nonterm c.args.into.end x can in
          let all : Contains list x.production = c.firsts-firsts.ensures.all c.args.into.end x.production x.end lt can.1 in
          h.1 (subst (λ (l : List ℕ). Contains l x.production) (sym (take_all c.loop-k.k list c.loop-k-test.false)) all, can),
    )
