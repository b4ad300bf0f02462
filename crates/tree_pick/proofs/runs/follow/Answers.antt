use Rattle.std.proofs.Common.{ℕ, List, take, take_all, get_or, Contains, sym, subst}
use Rattle.std.specs.Prelude.{◌↔◌}
use Rattle.tree_pick.specs.Runs.{LeadsFrom}
use Rattle.std.proofs.lemmas.List.Elements.{Contains-get_or}
use Rattle.tree_pick.proofs.FollowedParts.{take_more, from_more}
use Rattle.tree_pick.proofs.runs.follow.Goals as goal

pub advance-requires-clause-at : goal.advance-requires-clause-at
advance-requires-clause-at c = c.requires.within (get_or c.args.from.now c.loop-k.k 0) (Contains-get_or c.args.from.now c.loop-k.k 0 c.loop-k-test.true)

pub loop-k-preserved : goal.loop-k-preserved
loop-k-preserved c e =
    let gr = c.args.parse.now.grammar in
    let w = c.args.parse.now.kinds in
    let mid : List ℕ = c.loop-k.places.items in
    let new : List ℕ = c.advance.new.places.items in
    let from : List ℕ = c.args.from.now in
    subst (λ (t : List ℕ). Contains new e ↔ LeadsFrom gr w c.args.part t e) (sym (take_more from c.loop-k.k c.loop-k-test.true)) (from_more gr w c.args.part mid new (take c.loop-k.k from) (get_or from c.loop-k.k 0) e (c.loop-k.invariant e) (c.in_ok-advance.ensures e))

pub returns : goal.returns
returns c e =
    let gr = c.args.parse.now.grammar in
    let w = c.args.parse.now.kinds in
    let from : List ℕ = c.args.from.now in
    subst (λ (t : List ℕ). Contains c.loop-k.places.items e ↔ LeadsFrom gr w c.args.part t e) (take_all c.loop-k.k from c.loop-k-test.false) (c.loop-k.invariant e)
