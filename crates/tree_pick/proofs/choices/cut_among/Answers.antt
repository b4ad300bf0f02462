use Rattle.std.proofs.Common.{◌≡◌, ◌++◌, ◌∷◌, [], ℕ, List, Option, take, take_all, get_or, sym, subst, true, false, ◌∙◌}
use Rattle.std.proofs.lemmas.List.Elements.{Contains-get_or}
use Rattle.tree_pick.specs.Runs.{CutsAmong}
use Rattle.tree_pick.proofs.FollowedParts.{take_more}
use Rattle.tree_pick.proofs.FoundChoices.{IsOnly, only_same, among_without, only_first_one, only_again, only_choice, two_found, in_all}
use Rattle.tree_pick.proofs.choices.cut_among.Goals as goal
use Rattle.tree_pick.proofs.choices.cut_among.Goals.{then-branch+in-None, then-branch+in-Some+else-first-place, else-branch}

pub reaches-requires-clause-places : goal.reaches-requires-clause-places
reaches-requires-clause-places c =
    (c.requires.places (get_or c.args.places.now c.loop-k.k 0) (Contains-get_or c.args.places.now c.loop-k.k 0 c.loop-k-test.true), c.requires.end)

pub returns-then-first-place : goal.returns-then-first-place
returns-then-first-place c =
    let gr = c.args.parse.now.grammar in
    let w = c.args.parse.now.kinds in
    let places : List ℕ = c.args.places.now in
    let k : ℕ = c.loop-k.k in
    let e : ℕ = get_or places k 0 in
    let f : ℕ = c.in-Some.first in
    let only = subst (λ (o : Option ℕ). IsOnly o (CutsAmong gr w c.args.rest.now c.args.end (take k places))) c.in-Some.is c.loop-k.invariant in
    two_found (CutsAmong gr w c.args.rest.now c.args.end places) f e
    (in_all gr w c.args.rest.now c.args.end places k f only.0)
    (Contains-get_or places k 0 c.loop-k-test.true, c.in_ok-reaches.ensures.0 c.if-branch.true)
    c.if-first-place.true

pub loop-k-preserved : goal.loop-k-preserved
loop-k-preserved c =
    let gr = c.args.parse.now.grammar in
    let w = c.args.parse.now.kinds in
    let rest = c.args.rest.now in
    let j : ℕ = c.args.end in
    let places : List ℕ = c.args.places.now in
    let k : ℕ = c.loop-k.k in
    let e : ℕ = get_or places k 0 in
    let more = take_more places k c.loop-k-test.true in
    subst (λ (l : List ℕ). IsOnly c.if-branch.found (CutsAmong gr w rest j l)) (sym more) (elim c.if-branch.branch [
      | then-branch+in-None t ↦
          let only = subst (λ (o : Option ℕ). IsOnly o (CutsAmong gr w rest j (take k places))) t.in-None.is c.loop-k.invariant in
          subst (λ (o : Option ℕ). IsOnly o (CutsAmong gr w rest j (take k places ++ e ∷ []))) (sym t.found-is)
          (only_first_one gr w rest j (take k places) e (c.in_ok-reaches.ensures.0 t.if-branch.true) only)
      | then-branch+in-Some+else-first-place t ↦
          let f : ℕ = t.in-Some.first in
          let only = subst (λ (o : Option ℕ). IsOnly o (CutsAmong gr w rest j (take k places))) t.in-Some.is c.loop-k.invariant in
          subst (λ (o : Option ℕ). IsOnly o (CutsAmong gr w rest j (take k places ++ e ∷ []))) (sym t.found-is)
          (only_again gr w rest j (take k places) e f t.if-first-place.false only)
      | else-branch t ↦
          subst (λ (o : Option ℕ). IsOnly o (CutsAmong gr w rest j (take k places ++ e ∷ []))) (sym t.found-is)
          (only_same c.loop-k.found (CutsAmong gr w rest j (take k places)) (CutsAmong gr w rest j (take k places ++ e ∷ []))
          (λ h. among_without gr w rest j (take k places) e (λ has. let z : true ≡ false = sym (c.in_ok-reaches.ensures.1 has) ∙ t.if-branch.false in cc) h) c.loop-k.invariant)
    ])

pub returns : goal.returns
returns c =
    let gr = c.args.parse.now.grammar in
    let w = c.args.parse.now.kinds in
    let places : List ℕ = c.args.places.now in
    let P : ℕ → Type 0 = CutsAmong gr w c.args.rest.now c.args.end places in
    let only = subst (λ (l : List ℕ). IsOnly c.loop-k.found (CutsAmong gr w c.args.rest.now c.args.end l)) (take_all c.loop-k.k places c.loop-k-test.false) c.loop-k.invariant in
    only_choice P c.loop-k.found c.args.end c.unwrap_or.result c.unwrap_or.ensures only c.requires.some
