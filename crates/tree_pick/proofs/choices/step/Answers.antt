use Rattle.std.proofs.Common.{◌≡◌, ◌==◌, ap, arith, ◌<◌, ◌∙◌, true, false, ℕ, List, length, Contains, sym, subst}
use Rattle.std.specs.Prelude.{◌↔◌}
use Rattle.std.specs.Vec.{vec_len}
use Rattle.tree_pick.specs.declared.phrases.Corner.TheVariants.{Branch}
use Rattle.tree_pick.specs.declared.phrases.Taken.{Taken}
use Rattle.tree_pick.specs.Choices.{IsChoice, CanTake}
use Rattle.tree_pick.proofs.LeftParts.{has_step}
use Rattle.tree_pick.proofs.FollowedParts.{choice_of}
use Rattle.tree_pick.proofs.FoundChoices.{some_long, stay_choice, step_choice}
use Rattle.tree_pick.proofs.choices.step.Goals as goal

pub returns-then-is_there : goal.returns-then-is_there
returns-then-is_there c =
    let here = c.is_there.ensures.0 c.if-is_there.true in
    let count : vec_len c.in_ok-found.found ≡ length c.in_ok-found.found.items = omega (arith, c.in_ok-found.found.ok.0) in
    stay_choice c.args.parse.now.grammar c.args.parse.now.kinds c.args.into.nonterm c.args.into.end c.args.from c.args.at c.in_ok-found.found.items c.is_empty.result c.in_ok-found.ensures here.0 here.1 (c.is_empty.ensures ∙ ap (λ (n : ℕ). n == 0) count)

pub first_of-choice-requires : goal.first_of-choice-requires
first_of-choice-requires c =
    let x = has_step c.args.parse.now.grammar c.args.parse.now.kinds c.args.into.nonterm c.args.into.end c.args.from c.args.at c.requires.can
    (λ both. let t : true ≡ false = sym (c.is_there.ensures.1 both) ∙ c.if-is_there.false in cc) in
    subst (λ (l : List Taken). 0 < length l) (sym c.deref.ensures.value) (some_long c.in_ok-found.found.items x.0 ((c.in_ok-found.ensures x.0).1 x.1))

pub returns : goal.returns
returns c =
    let gr = c.args.parse.now.grammar in
    let w = c.args.parse.now.kinds in
    let n : ℕ = c.args.into.nonterm in
    let j : ℕ = c.args.into.end in
    let Can : Taken → Type 0 = CanTake gr w (Branch c.args.from c.args.at) n j in
    let h : IsChoice Can c.first_of-choice.result = choice_of (λ x. Contains c.deref.result.now x) Can c.first_of-choice.result
    (λ x. subst (λ (l : List Taken). Contains l x ↔ Can x) (sym c.deref.ensures.value) (c.in_ok-found.ensures x))
    c.first_of-choice.ensures in
    step_choice gr w n j c.args.from c.args.at c.first_of-choice.result h (λ both. let t : true ≡ false = sym (c.is_there.ensures.1 both) ∙ c.if-is_there.false in cc)
