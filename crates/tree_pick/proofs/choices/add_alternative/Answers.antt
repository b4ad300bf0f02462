use Rattle.std.proofs.Common.{◌≡◌, ◌⊎◌, inl, inr, ℕ, List, Contains}
use Rattle.std.proofs.lemmas.Result.{on_ok_weaker}
use Rattle.source_lex.specs.Numbered.{Alternative}
use Rattle.chart_parse.specs.Growths.{HasPieces}
use Rattle.tree_pick.specs.declared.phrases.Taken.{Taken}
use Rattle.tree_pick.specs.Choices.{Takes, CanTake}
use Rattle.tree_pick.proofs.FoundChoices.{takes_fits, takes_none, either_same, iff_then}
use Rattle.tree_pick.proofs.choices.add_alternative.Goals as goal

pub returns-in-None : goal.returns-in-None
returns-in-None c x =
    let gr = c.args.parse.now.grammar in
    let w = c.args.parse.now.kinds in (
      λ h. inl h,
      λ h. elim h [
        | inl o ↦ o
        | inr t ↦ absurd (takes_none gr w c.args.corner c.args.production c.args.alternative c.args.into.nonterm c.args.into.end c.alternative-parts.result.now x c.in-None.ensures c.alternative-parts.ensures t.0 t.1 t.2)
      ],
    )

pub returns-in-Some : goal.returns-in-Some
returns-in-Some c =
    let gr = c.args.parse.now.grammar in
    let w = c.args.parse.now.kinds in
    let b : ℕ = c.args.production in
    let a : ℕ = c.args.alternative in
    let n : ℕ = c.args.into.nonterm in
    let j : ℕ = c.args.into.end in
    let old : List Taken = c.args.found.now.items in
    let new : List Taken = c.add_rest.new.found.items in
    let parts : Alternative = c.alternative-parts.result.now in
    let rest : Alternative = c.in-Some.rest.now in
    let at : ℕ = c.in-Some.at in
    on_ok_weaker c.add_rest.result (λ all x.
    iff_then (Contains new x) (Contains old x ⊎ Takes gr w b a (HasPieces gr w rest at) n j x) (Contains old x ⊎ ((x.production ≡ b) × (x.alternative ≡ a) × CanTake gr w c.args.corner n j x)) (all x)
    (either_same (Contains old x) (Takes gr w b a (HasPieces gr w rest at) n j x) ((x.production ≡ b) × (x.alternative ≡ a) × CanTake gr w c.args.corner n j x)
    (takes_fits gr w c.args.corner b a n j parts rest at x c.in-Some.ensures c.alternative-parts.ensures)))
    c.add_rest.ensures
