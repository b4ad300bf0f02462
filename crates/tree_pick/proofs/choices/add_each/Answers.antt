use Rattle.std.proofs.Common.{◌⊎◌, ℕ, List, take, take_all, get_or, Contains, sym, subst}
use Rattle.std.specs.Prelude.{◌↔◌}
use Rattle.std.proofs.lemmas.List.Elements.{Contains-get_or}
use Rattle.tree_pick.specs.declared.phrases.Taken.{Taken}
use Rattle.tree_pick.specs.Choices.{Takes}
use Rattle.tree_pick.proofs.FollowedParts.{take_more}
use Rattle.tree_pick.proofs.FoundChoices.{ends_more}
use Rattle.tree_pick.proofs.choices.add_each.Goals as goal

pub add_if_grows-requires-clause-places : goal.add_if_grows-requires-clause-places
add_if_grows-requires-clause-places c =
    (c.requires.ends (get_or c.args.ends.now c.loop-k.k 0) (Contains-get_or c.args.ends.now c.loop-k.k 0 c.loop-k-test.true), c.requires.end)

pub loop-k-preserved : goal.loop-k-preserved
loop-k-preserved c x =
    let gr = c.args.parse.now.grammar in
    let w = c.args.parse.now.kinds in
    let b : ℕ = c.args.production in
    let a : ℕ = c.args.alternative in
    let n : ℕ = c.args.into.nonterm in
    let j : ℕ = c.args.into.end in
    let old : List Taken = c.args.found.now.items in
    let mid : List Taken = c.loop-k.found.items in
    let new : List Taken = c.add_if_grows.new.found.items in
    let ends : List ℕ = c.args.ends.now in
    let k : ℕ = c.loop-k.k in
    subst (λ (l : List ℕ). Contains new x ↔ (Contains old x ⊎ Takes gr w b a (Contains l) n j x)) (sym (take_more ends k c.loop-k-test.true))
    (ends_more gr w b a n j old mid new (take k ends) (get_or ends k 0) x (c.loop-k.invariant x) (c.in_ok-add_if_grows.ensures x))

pub returns : goal.returns
returns c x =
    let gr = c.args.parse.now.grammar in
    let w = c.args.parse.now.kinds in
    let b : ℕ = c.args.production in
    let a : ℕ = c.args.alternative in
    let n : ℕ = c.args.into.nonterm in
    let j : ℕ = c.args.into.end in
    subst (λ (l : List ℕ). Contains c.loop-k.found.items x ↔ (Contains c.args.found.now.items x ⊎ Takes gr w b a (Contains l) n j x)) (take_all c.loop-k.k c.args.ends.now c.loop-k-test.false) (c.loop-k.invariant x)
