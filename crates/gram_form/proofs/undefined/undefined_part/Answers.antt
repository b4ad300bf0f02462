use Rattle.std.proofs.Common.{◌≡◌, ◌∙◌, ◌<◌, true, false, map, arith, below_more, sym}
use Rattle.std.proofs.lemmas.List.{length-map}
use Rattle.gram_form.specs.Plain.{texts, plain_part, PlainPart}
use Rattle.gram_form.specs.Grammars.{is_undefined, IsUndefinedPart}
use Rattle.gram_form.proofs.Searching.{some_within, some_at, at_some}
use Rattle.gram_form.proofs.undefined.undefined_part.Goals as goal

pub loop-number-preserved : goal.loop-number-preserved
loop-number-preserved c =
    below_more (λ k. IsUndefinedPart (texts c.args.names.now.keys) (map plain_part c.args.parts.now) k → ⊥) c.loop-number.number c.loop-number.invariant
    (λ u.
    let e : false ≡ true = c.if-is_undefined.ensures ∙ some_at plain_part c.args.parts.now c.loop-number.number _ (λ (p : PlainPart). is_undefined (texts c.args.names.now.keys) p ≡ true) u in
    absurd (cc))

pub returns-then-is_undefined : goal.returns-then-is_undefined
returns-then-is_undefined c = record {
  undefined = at_some plain_part c.args.parts.now c.loop-number.number _ (λ (p : PlainPart). is_undefined (texts c.args.names.now.keys) p ≡ true) c.loop-number-test.true (sym c.if-is_undefined.ensures);
  first = λ l u less. c.loop-number.invariant l less u;
}

pub returns : goal.returns
returns c = λ k u.
    let within = some_within (map plain_part c.args.parts.now) k (λ (p : PlainPart). is_undefined (texts c.args.names.now.keys) p ≡ true) u in
    let less : k < c.loop-number.number = omega (arith, within, length-map c.args.parts.now plain_part) in
    c.loop-number.invariant k less u
