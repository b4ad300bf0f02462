use Rattle.std.proofs.Common.{◌⊎◌, ℕ, List, Contains, sym, subst}
use Rattle.std.specs.Prelude.{◌↔◌}
use Rattle.std.proofs.lemmas.Result.{on_ok_weaker}
use Rattle.chart_parse.specs.Growths.{HasPieces}
use Rattle.tree_pick.specs.declared.phrases.Taken.{Taken}
use Rattle.tree_pick.specs.Choices.{Takes}
use Rattle.tree_pick.specs.Runs.{AreWithin}
use Rattle.tree_pick.proofs.FoundChoices.{takes_same, either_same, iff_then}
use Rattle.tree_pick.proofs.choices.add_ends.Goals as goal

pub add_each-requires-clause-ends : goal.add_each-requires-clause-ends
add_each-requires-clause-ends c = subst (AreWithin c.args.parse.now.kinds) (sym c.deref.ensures.value) c.in_ok-ends.ensures.within

pub returns : goal.returns
returns c =
    let gr = c.args.parse.now.grammar in
    let w = c.args.parse.now.kinds in
    let b : ℕ = c.args.production in
    let a : ℕ = c.args.alternative in
    let n : ℕ = c.args.into.nonterm in
    let j : ℕ = c.args.into.end in
    let old : List Taken = c.args.found.now.items in
    let new : List Taken = c.add_each.new.found.items in
    let ends : List ℕ = c.deref.result.now in
    let Led : ℕ → Type 0 = HasPieces gr w c.args.rest.now c.args.at in
    let same : (e : ℕ) → Contains ends e ↔ Led e = (λ e. subst (λ (l : List ℕ). Contains l e ↔ Led e) (sym c.deref.ensures.value) (c.in_ok-ends.ensures.ends e)) in
    on_ok_weaker c.add_each.result (λ all x.
    iff_then (Contains new x) (Contains old x ⊎ Takes gr w b a (Contains ends) n j x) (Contains old x ⊎ Takes gr w b a Led n j x) (all x)
    (either_same (Contains old x) (Takes gr w b a (Contains ends) n j x) (Takes gr w b a Led n j x) (takes_same gr w b a n j (Contains ends) Led x same)))
    c.add_each.ensures
