use Rattle.std.proofs.Common.{◌≡◌, ◌<◌, ◌⊎◌, inl, inr, ℕ, List, length, Contains, Bor, arith}
use Rattle.std.proofs.lemmas.List.{length-map}
use Rattle.source_lex.specs.Numbered.{Alternative, plain_alternatives}
use Rattle.source_lex.specs.declared.numbered.Symbol.{Symbol}
use Rattle.tree_pick.specs.Choices.{CanTake}
use Rattle.tree_pick.proofs.FoundChoices.{alternative_there, take_below, counted_more, either_same, iff_then}
use Rattle.tree_pick.proofs.choices.add_production.Goals as goal

pub add_alternative-requires-clause-alternative : goal.add_alternative-requires-clause-alternative
add_alternative-requires-clause-alternative c =
    let list : List Alternative = plain_alternatives c.alternatives-count.result in
    alternative_there c.args.parse.now.grammar c.args.production c.loop-alternative.alternative list c.alternatives-count.ensures.alternatives
    (omega (arith, c.loop-alternative-test.true, length-map c.alternatives-count.result.now (λ (a : Bor (List Symbol)). a.now)))

pub loop-alternative-preserved : goal.loop-alternative-preserved
loop-alternative-preserved c x =
    let P : Type 0 = (x.production ≡ c.args.production) × CanTake c.args.parse.now.grammar c.args.parse.now.kinds c.args.corner c.args.into.nonterm c.args.into.end x in
    let Can : Type 0 = CanTake c.args.parse.now.grammar c.args.parse.now.kinds c.args.corner c.args.into.nonterm c.args.into.end x in
    let Old : Type 0 = Contains c.args.found.now.items x in
    let Mid : Type 0 = Contains c.loop-alternative.found.items x in
    let New : Type 0 = Contains c.add_alternative.new.found.items x in
    let k : ℕ = c.loop-alternative.alternative in
    counted_more Old New Mid P x.alternative k (c.loop-alternative.invariant x)
    (iff_then New (Mid ⊎ ((x.production ≡ c.args.production) × (x.alternative ≡ k) × Can)) (Mid ⊎ ((x.alternative ≡ k) × P)) (c.in_ok-add_alternative.ensures x)
    (either_same Mid ((x.production ≡ c.args.production) × (x.alternative ≡ k) × Can) ((x.alternative ≡ k) × P) (λ t. (t.1, (t.0, t.2)), λ t. (t.1.0, t.0, t.1.1))))

pub returns : goal.returns
returns c x =
    let Can : Type 0 = CanTake c.args.parse.now.grammar c.args.parse.now.kinds c.args.corner c.args.into.nonterm c.args.into.end x in
    let list : List Alternative = plain_alternatives c.alternatives-count.result in
    let h = c.loop-alternative.invariant x in (
      λ there. elim (h.0 there) [ inl o ↦ inl o | inr t ↦ inr t.1 ],
      λ there. elim there [
        | inl o ↦ h.1 (inl o)
        | inr t ↦
            let below : x.alternative < length list = take_below c.args.parse.now.grammar c.args.parse.now.kinds c.args.corner c.args.production c.args.into.nonterm c.args.into.end list x c.alternatives-count.ensures.alternatives t.0 t.1 in
            h.1 (inr (omega (arith, below, c.loop-alternative-test.false, length-map c.alternatives-count.result.now (λ (a : Bor (List Symbol)). a.now)), t))
      ],
    )
