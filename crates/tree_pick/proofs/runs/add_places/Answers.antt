use Rattle.std.proofs.Common.{◌⊎◌, ℕ, List, take, take_all, get_or, Contains, sym, subst}
use Rattle.std.specs.Prelude.{◌↔◌}
use Rattle.tree_pick.proofs.FollowedParts.{take_more, places_more}
use Rattle.tree_pick.proofs.runs.add_places.Goals as goal

pub loop-k-preserved : goal.loop-k-preserved
loop-k-preserved c e =
    let old : List ℕ = c.args.places.now.items in
    let mid : List ℕ = c.loop-k.places.items in
    let new : List ℕ = c.add_place.new.places.items in
    let more : List ℕ = c.args.more.now in
    subst (λ (t : List ℕ). Contains new e ↔ (Contains old e ⊎ Contains t e)) (sym (take_more more c.loop-k.k c.loop-k-test.true)) (places_more old mid new (take c.loop-k.k more) (get_or more c.loop-k.k 0) e (c.loop-k.invariant e) (c.in_ok-add_place.ensures e))

pub returns : goal.returns
returns c e =
    let more : List ℕ = c.args.more.now in
    subst (λ (t : List ℕ). Contains c.loop-k.places.items e ↔ (Contains c.args.places.now.items e ⊎ Contains t e)) (take_all c.loop-k.k more c.loop-k-test.false) (c.loop-k.invariant e)
