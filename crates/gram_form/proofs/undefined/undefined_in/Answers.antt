use Rattle.std.proofs.Common.{◌<◌, ℕ, List, map, arith, below_more}
use Rattle.std.proofs.lemmas.List.{length-map}
use Rattle.gram_form.specs.Plain.{PlainPart, texts, plain_alternative}
use Rattle.gram_form.specs.Grammars.{IsUndefinedPart, IsUndefinedIn}
use Rattle.gram_form.proofs.Searching.{some_within, some_at, first_in}
use Rattle.gram_form.proofs.undefined.undefined_in.Goals as goal

pub loop-alternative-preserved : goal.loop-alternative-preserved
loop-alternative-preserved c = λ a k less u.
    below_more (λ b. (l : ℕ) → IsUndefinedIn (texts c.args.names.now.keys) (map plain_alternative c.args.alternatives.now) b l → ⊥) c.loop-alternative.alternative
    (λ b before l v. c.loop-alternative.invariant b l before v)
    (λ l v. c.in_default.ensures l (some_at plain_alternative c.args.alternatives.now c.loop-alternative.alternative _ (λ (p : List PlainPart). IsUndefinedPart (texts c.args.names.now.keys) p l) v))
    a less k u

pub returns-in-Some : goal.returns-in-Some
returns-in-Some c =
    first_in (texts c.args.names.now.keys) c.args.alternatives.now c.loop-alternative.alternative c.in-Some.part _ c.loop-alternative-test.true
    c.loop-alternative.invariant c.in-Some.ensures

pub returns : goal.returns
returns c = λ a k u.
    let within = some_within (map plain_alternative c.args.alternatives.now) a (λ (p : List PlainPart). IsUndefinedPart (texts c.args.names.now.keys) p k) u in
    let less : a < c.loop-alternative.alternative = omega (arith, within, length-map c.args.alternatives.now plain_alternative) in
    c.loop-alternative.invariant a k less u
