use Rattle.std.proofs.Common.{◌≡◌, ◌<◌, map, arith, below_more, refl, subst}
use Rattle.std.specs.Prelude.{IsSomeAnd, slice_get}
use Rattle.std.proofs.lemmas.List.{length-map}
use Rattle.gram_form.specs.Plain.{PlainProduction, texts, plain_production}
use Rattle.gram_form.specs.Grammars.{Place, IsUndefinedIn, IsUndefinedAmong}
use Rattle.gram_form.proofs.Searching.{some_within, some_at, first_among}
use Rattle.gram_form.proofs.undefined.first_undefined.Goals as goal

pub loop-number-preserved : goal.loop-number-preserved
loop-number-preserved c = λ x less u.
    below_more (λ n. (y : Place) → y.production ≡ n → IsUndefinedAmong (texts c.args.names.now.keys) (map plain_production c.args.list.now) y → ⊥) c.loop-number.number
    (λ n before y same v. let there : y.production < c.loop-number.number = omega arith in c.loop-number.invariant y there v)
    (λ y same v.
    c.in_default.ensures y.alternative y.part
    (some_at plain_production c.args.list.now c.loop-number.number _ (λ (p : PlainProduction). IsUndefinedIn (texts c.args.names.now.keys) p.alternatives y.alternative y.part)
    (subst (λ n. IsSomeAnd (slice_get (map plain_production c.args.list.now) n) (λ (p : PlainProduction). IsUndefinedIn (texts c.args.names.now.keys) p.alternatives y.alternative y.part)) same v)))
    x.production less x refl u

pub returns-in-Some : goal.returns-in-Some
returns-in-Some c =
    first_among (texts c.args.names.now.keys) c.args.list.now c.loop-number.number c.in-Some.alternative c.in-Some.part _ c.loop-number-test.true
    c.loop-number.invariant c.in-Some.ensures

pub returns : goal.returns
returns c = λ x u.
    let within = some_within (map plain_production c.args.list.now) x.production (λ (p : PlainProduction). IsUndefinedIn (texts c.args.names.now.keys) p.alternatives x.alternative x.part) u in
    let less : x.production < c.loop-number.number = omega (arith, within, length-map c.args.list.now plain_production) in
    c.loop-number.invariant x less u
